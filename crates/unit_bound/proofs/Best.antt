-- The best alternative of those tried so far.
use Rattle.std.proofs.Common.{◌≡◌, ℕ, ◌+◌, ◌<◌, ◌≤◌, List, [], ◌∷◌, ◌++◌, length, get_or, refl, ap, inl, inr, arith}
use Rattle.std.proofs.lemmas.Bool.{cases_lt}
use Rattle.machine_data.specs.declared.alternative.Row.{Row}
use Rattle.unit_bound.specs.Units.{greatest_use, IsBest}

-- the choice is the best of the first n alternatives, and leaves the most used unit with this use
pub record IsBestUpTo (taken : List Row) (alternatives : List (List Row)) (n choice most : ℕ) : Type 0 where
  pub there : choice < n
  pub is : most ≡ greatest_use (taken ++ get_or alternatives choice [])
  pub least : (other : ℕ) → other < n → most ≤ greatest_use (taken ++ get_or alternatives other [])
  pub first : (other : ℕ) → other < choice → most < greatest_use (taken ++ get_or alternatives other [])

pub best-one : (taken : List Row) (alternatives : List (List Row)) (most : ℕ) → most ≡ greatest_use (taken ++ get_or alternatives 0 [])
    → IsBestUpTo taken alternatives 1 0 most
best-one taken alternatives most is = record {
  there = omega arith;
  is = is;
  least = λ other h.
      let e : other ≡ 0 = omega arith in
      let k : greatest_use (taken ++ get_or alternatives other []) ≡ greatest_use (taken ++ get_or alternatives 0 []) = ap (λ i. greatest_use (taken ++ get_or alternatives i [])) e in
      omega arith;
  first = λ other h. absurd (omega arith);
}

pub best-better : (taken : List Row) (alternatives : List (List Row)) (n choice most lower : ℕ) → IsBestUpTo taken alternatives n choice most → lower < most
    → lower ≡ greatest_use (taken ++ get_or alternatives n []) → IsBestUpTo taken alternatives (n + 1) n lower
best-better taken alternatives n choice most lower b less is = record {
  there = omega arith;
  is = is;
  least = λ other h. elim (cases_lt other n) [
    | inl before ↦ (let k : most ≤ greatest_use (taken ++ get_or alternatives other []) = b.least other before in omega arith)
    | inr after ↦ (let e : other ≡ n = omega arith in
        let k : greatest_use (taken ++ get_or alternatives other []) ≡ greatest_use (taken ++ get_or alternatives n []) = ap (λ i. greatest_use (taken ++ get_or alternatives i [])) e in
        omega arith)
  ];
  first = λ other h. let k : most ≤ greatest_use (taken ++ get_or alternatives other []) = b.least other h in omega arith;
}

pub best-kept : (taken : List Row) (alternatives : List (List Row)) (n choice most other_most : ℕ) → IsBestUpTo taken alternatives n choice most → most ≤ other_most
    → other_most ≡ greatest_use (taken ++ get_or alternatives n []) → IsBestUpTo taken alternatives (n + 1) choice most
best-kept taken alternatives n choice most other_most b more is = record {
  there = let h : choice < n = b.there in omega arith;
  is = b.is;
  least = λ other h. elim (cases_lt other n) [
    | inl before ↦ b.least other before
    | inr after ↦ (let e : other ≡ n = omega arith in
        let k : greatest_use (taken ++ get_or alternatives other []) ≡ greatest_use (taken ++ get_or alternatives n []) = ap (λ i. greatest_use (taken ++ get_or alternatives i [])) e in
        omega arith)
  ];
  first = b.first;
}

pub best-all : (taken : List Row) (alternatives : List (List Row)) (n choice most : ℕ) → IsBestUpTo taken alternatives n choice most → length alternatives ≤ n
    → choice < length alternatives → IsBest taken alternatives choice
best-all taken alternatives n choice most b all there =
    let m : most ≡ greatest_use (taken ++ get_or alternatives choice []) = b.is in
    record {
      there = there;
      least = λ other h. let within : other < n = omega arith in let k : most ≤ greatest_use (taken ++ get_or alternatives other []) = b.least other within in omega arith;
      first = λ other h. let k : most < greatest_use (taken ++ get_or alternatives other []) = b.first other h in omega arith;
    }

-- a list of one item
pub single : (rows : List Row) (d : Row) → 1 ≤ length rows → length rows < 2 → rows ≡ get_or rows 0 d ∷ []
single [] d some few = absurd (omega arith)
single (r ∷ []) d some few = refl
single (r ∷ s ∷ rows) d some few = absurd (omega arith)
