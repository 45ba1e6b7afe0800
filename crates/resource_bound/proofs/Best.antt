-- The best alternative of those tried so far.
use Rattle.std.proofs.Common.{◌≡◌, ℕ, ◌+◌, ◌<◌, ◌≤◌, List, [], ◌++◌, length, get_or, ap, inl, inr, arith}
use Rattle.std.proofs.lemmas.Bool.{cases_lt}
use Rattle.machine_data.specs.declared.alternative.Row.{Row}
use Rattle.unit_bound.specs.Units.{greatest_use}
use Rattle.unit_bound.specs.Uses.{Tallies}
use Rattle.resource_bound.specs.inner.Tallies.{TakesChoice}

-- the choice is the best of the first n alternatives, and the counters are those with its rows
pub record IsBestOf (taken : List Row) (alternatives : List (List Row)) (n choice : ℕ) (counts : List ℕ) (greatest : ℕ) : Type 0 where
  pub there : choice < n
  pub least : (other : ℕ) → other < n → greatest ≤ greatest_use (taken ++ get_or alternatives other [])
  pub first : (other : ℕ) → other < choice → greatest < greatest_use (taken ++ get_or alternatives other [])
  pub tallies : Tallies (taken ++ get_or alternatives choice []) counts greatest

abbrev use_with : List Row → List (List Row) → ℕ → ℕ
use_with taken alternatives i = greatest_use (taken ++ get_or alternatives i [])

pub best_of-one : (taken : List Row) (alternatives : List (List Row)) (counts : List ℕ) (greatest : ℕ)
    → Tallies (taken ++ get_or alternatives 0 []) counts greatest → IsBestOf taken alternatives 1 0 counts greatest
best_of-one taken alternatives counts greatest t = record {
  there = omega arith;
  least = λ other h.
      let e : other ≡ 0 = omega arith in
      let k : use_with taken alternatives other ≡ use_with taken alternatives 0 = ap (use_with taken alternatives) e in
      let m : greatest ≡ use_with taken alternatives 0 = t.most in
      omega arith;
  first = λ other h. absurd (omega arith);
  tallies = t;
}

-- a new alternative is at least as good as the others up to it
up_to : (taken : List Row) (alternatives : List (List Row)) (n greatest most : ℕ)
    → ((other : ℕ) → other < n → greatest ≤ use_with taken alternatives other) → most ≡ use_with taken alternatives n
    → (bound : ℕ) → bound ≤ greatest → bound ≤ most → (other : ℕ) → other < n + 1 → bound ≤ use_with taken alternatives other
up_to taken alternatives n greatest most least m bound low lower other h = elim (cases_lt other n) [
  | inl before ↦ (let k : greatest ≤ use_with taken alternatives other = least other before in omega arith)
  | inr after ↦ (let e : other ≡ n = omega arith in
      let k : use_with taken alternatives other ≡ use_with taken alternatives n = ap (use_with taken alternatives) e in omega arith)
]

pub best_of-better : (taken : List Row) (alternatives : List (List Row)) (n choice : ℕ) (counts others : List ℕ) (greatest most : ℕ)
    → IsBestOf taken alternatives n choice counts greatest → most < greatest → Tallies (taken ++ get_or alternatives n []) others most
    → IsBestOf taken alternatives (n + 1) n others most
best_of-better taken alternatives n choice counts others greatest most b less t = record {
  there = omega arith;
  least = up_to taken alternatives n greatest most b.least t.most most (omega arith) (omega arith);
  first = λ other h. let k : greatest ≤ use_with taken alternatives other = b.least other h in omega arith;
  tallies = t;
}

pub best_of-kept : (taken : List Row) (alternatives : List (List Row)) (n choice : ℕ) (counts others : List ℕ) (greatest most : ℕ)
    → IsBestOf taken alternatives n choice counts greatest → greatest ≤ most → Tallies (taken ++ get_or alternatives n []) others most
    → IsBestOf taken alternatives (n + 1) choice counts greatest
best_of-kept taken alternatives n choice counts others greatest most b more t = record {
  there = let h : choice < n = b.there in omega arith;
  least = up_to taken alternatives n greatest most b.least t.most greatest (omega arith) more;
  first = b.first;
  tallies = b.tallies;
}

pub best_of-all : (taken : List Row) (alternatives : List (List Row)) (n choice : ℕ) (counts : List ℕ) (greatest : ℕ)
    → IsBestOf taken alternatives n choice counts greatest → n ≡ length alternatives → TakesChoice taken alternatives choice counts greatest
best_of-all taken alternatives n choice counts greatest b all =
    let m : greatest ≡ use_with taken alternatives choice = b.tallies.most in
    let there : choice < n = b.there in
    record {
      best = record {
        there = omega arith;
        least = λ other h. let within : other < n = omega arith in let k : greatest ≤ use_with taken alternatives other = b.least other within in omega arith;
        first = λ other h. let k : greatest < use_with taken alternatives other = b.first other h in omega arith;
      };
      tallies = b.tallies;
    }
