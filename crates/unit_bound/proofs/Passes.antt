-- The passes over the operations: by number of alternatives, from 1.
use Rattle.std.proofs.Common.{◌≡◌, ◌≢◌, ℕ, zero, suc, ◌+◌, ◌-◌, ◌<◌, ◌≤◌, ◌==◌, Bool, true, false, cond, List, [], ◌∷◌, ◌++◌, length, get_or, refl, sym, ap, ◌∙◌, inl, inr, arith, filter, eqb, leb}
use Rattle.std.proofs.lemmas.List.{append-nil, append_assoc, length-append}
use Rattle.std.proofs.lemmas.List.Elements.{All-head, All-tail, All-nil, All-append, All-filter}
use Rattle.std.proofs.lemmas.List.Sums.{sum_by-cons, length-filter}
use Rattle.std.proofs.lemmas.Bool.{eq-eqb, ne_eqb, cases_order, le-leb, lt-leb}
use Rattle.std.specs.List.{count_by, All, flat_map, range_with_len}
use Rattle.machine_data.specs.declared.alternative.Row.{Row}
use Rattle.unit_bound.specs.Units.{by_freedom}
use Rattle.edges.proofs.Filtered.{filter_all, filter_none}

-- the operations of the passes for 1 to n alternatives
abbrev pub passes : List (List (List Row)) → ℕ → List (List (List Row))
passes operations zero = []
passes operations (suc n) = passes operations n ++ filter (λ alternatives. length alternatives == suc n) operations

pub passes-more : (operations : List (List (List Row))) (n : ℕ) → 0 < n
    → passes operations (n - 1) ++ filter (λ alternatives. length alternatives == n) operations ≡ passes operations ((n + 1) - 1)
passes-more operations zero some = absurd (omega arith)
passes-more operations (suc n) some =
    let a : suc n - 1 ≡ n = omega arith in
    let b : (suc n + 1) - 1 ≡ suc n = omega arith in
    ap (λ k. passes operations k ++ filter (λ alternatives. length alternatives == suc n) operations) a ∙ sym (ap (passes operations) b)

-- n more passes
passes_from : (operations : List (List (List Row))) (a n : ℕ)
    → passes operations (a + n) ≡ passes operations a ++ flat_map (λ k. filter (λ alternatives. length alternatives == k) operations) (range_with_len (a + 1) n)
passes_from operations a zero =
    let none : a + 0 ≡ a = omega arith in
    ap (passes operations) none ∙ sym (append-nil (passes operations a))
passes_from operations a (suc n) =
    let f : ℕ → List (List (List Row)) = λ k. filter (λ alternatives. length alternatives == k) operations in
    let next : a + suc n ≡ (a + 1) + n = omega arith in
    let one : a + 1 ≡ suc a = omega arith in
    let split : passes operations (a + 1) ≡ passes operations a ++ f (a + 1) = ap (passes operations) one ∙ ap (λ k. passes operations a ++ f k) (sym one) in
    ap (passes operations) next ∙ passes_from operations (a + 1) n
    ∙ ap (λ l. l ++ flat_map f (range_with_len ((a + 1) + 1) n)) split
    ∙ append_assoc (passes operations a) (f (a + 1)) (flat_map f (range_with_len ((a + 1) + 1) n))

pub passes_all : (operations : List (List (List Row))) → passes operations 16 ≡ by_freedom operations
passes_all operations = passes_from operations 0 16

abbrev one_if : Bool → ℕ
one_if b = cond b 1 0

-- where f is at most k, or one more
count-more : {X : Type 0} (f : X → ℕ) (k : ℕ) (xs : List X)
    → count_by (λ x. leb (f x) k) xs + count_by (λ x. eqb (f x) (suc k)) xs ≡ count_by (λ x. leb (f x) (suc k)) xs
count-more f k [] = refl
count-more f k (x ∷ xs) =
    let h : count_by (λ x. leb (f x) k) xs + count_by (λ x. eqb (f x) (suc k)) xs ≡ count_by (λ x. leb (f x) (suc k)) xs = count-more f k xs in
    let a : count_by (λ x. leb (f x) k) (x ∷ xs) ≡ one_if (leb (f x) k) + count_by (λ x. leb (f x) k) xs = sum_by-cons (λ x. one_if (leb (f x) k)) x xs in
    let b : count_by (λ x. eqb (f x) (suc k)) (x ∷ xs) ≡ one_if (eqb (f x) (suc k)) + count_by (λ x. eqb (f x) (suc k)) xs = sum_by-cons (λ x. one_if (eqb (f x) (suc k))) x xs in
    let c : count_by (λ x. leb (f x) (suc k)) (x ∷ xs) ≡ one_if (leb (f x) (suc k)) + count_by (λ x. leb (f x) (suc k)) xs = sum_by-cons (λ x. one_if (leb (f x) (suc k))) x xs in
    let d : one_if (leb (f x) k) + one_if (eqb (f x) (suc k)) ≡ one_if (leb (f x) (suc k)) = elim (cases_order (f x) (suc k)) [
      | inl e ↦ (let p : one_if (leb (f x) k) ≡ 0 = ap one_if (lt-leb (f x) k (omega arith)) in
          let q : one_if (eqb (f x) (suc k)) ≡ 1 = ap one_if (eq-eqb (f x) (suc k) e) in
          let r : one_if (leb (f x) (suc k)) ≡ 1 = ap one_if (le-leb (f x) (suc k) (omega arith)) in omega arith)
      | inr o ↦ elim o [
        | inl less ↦ (let p : one_if (leb (f x) k) ≡ 1 = ap one_if (le-leb (f x) k (omega arith)) in
            let ne : f x ≢ suc k = omega arith in
            let q : one_if (eqb (f x) (suc k)) ≡ 0 = ap one_if (ne_eqb (f x) (suc k) ne) in
            let r : one_if (leb (f x) (suc k)) ≡ 1 = ap one_if (le-leb (f x) (suc k) (omega arith)) in omega arith)
        | inr more ↦ (let p : one_if (leb (f x) k) ≡ 0 = ap one_if (lt-leb (f x) k (omega arith)) in
            let ne : f x ≢ suc k = omega arith in
            let q : one_if (eqb (f x) (suc k)) ≡ 0 = ap one_if (ne_eqb (f x) (suc k) ne) in
            let r : one_if (leb (f x) (suc k)) ≡ 0 = ap one_if (lt-leb (f x) (suc k) (omega arith)) in omega arith)
      ]
    ] in
    omega arith

count-all : {X : Type 0} (p : X → Bool) (xs : List X) → All (λ x. p x ≡ true) xs → count_by p xs ≡ length xs
count-all p [] h = refl
count-all p (x ∷ xs) h =
    let a : count_by p (x ∷ xs) ≡ one_if (p x) + count_by p xs = sum_by-cons (λ x. one_if (p x)) x xs in
    let b : one_if (p x) ≡ 1 = ap one_if (All-head (λ x. p x ≡ true) x xs h) in
    let c : count_by p xs ≡ length xs = count-all p xs (All-tail (λ x. p x ≡ true) x xs h) in
    omega arith

count-none : {X : Type 0} (p : X → Bool) (xs : List X) → All (λ x. p x ≡ false) xs → count_by p xs ≡ 0
count-none p [] h = refl
count-none p (x ∷ xs) h =
    let a : count_by p (x ∷ xs) ≡ one_if (p x) + count_by p xs = sum_by-cons (λ x. one_if (p x)) x xs in
    let b : one_if (p x) ≡ 0 = ap one_if (All-head (λ x. p x ≡ false) x xs h) in
    let c : count_by p xs ≡ 0 = count-none p xs (All-tail (λ x. p x ≡ false) x xs h) in
    omega arith

length-passes : (operations : List (List (List Row))) (n : ℕ) → All (λ alternatives. 0 < length alternatives) operations
    → length (passes operations n) ≡ count_by (λ alternatives. leb (length alternatives) n) operations
length-passes operations zero some =
    sym (count-none (λ alternatives. leb (length alternatives) zero) operations (λ k d h. lt-leb (length (get_or operations k d)) zero (some k d h)))
length-passes operations (suc n) some =
    let a : length (passes operations (suc n)) ≡ length (passes operations n) + length (filter (λ alternatives. length alternatives == suc n) operations)
    = length-append (passes operations n) (filter (λ alternatives. length alternatives == suc n) operations) in
    let b : length (filter (λ alternatives. length alternatives == suc n) operations) ≡ count_by (λ alternatives. length alternatives == suc n) operations
    = length-filter (λ alternatives. length alternatives == suc n) operations in
    let c : length (passes operations n) ≡ count_by (λ alternatives. leb (length alternatives) n) operations = length-passes operations n some in
    let d : count_by (λ alternatives. leb (length alternatives) n) operations + count_by (λ alternatives. length alternatives == suc n) operations
    ≡ count_by (λ alternatives. leb (length alternatives) (suc n)) operations
    = count-more (λ alternatives. length alternatives) n operations in
    omega arith

-- where each operation has 1 to 16 alternatives, each is taken once
pub length-by_freedom : (operations : List (List (List Row))) → All (λ alternatives. 0 < length alternatives) operations
    → All (λ alternatives. length alternatives ≤ 16) operations → length (by_freedom operations) ≡ length operations
length-by_freedom operations some few =
    ap length (sym (passes_all operations)) ∙ length-passes operations 16 some
    ∙ count-all (λ alternatives. leb (length alternatives) 16) operations (λ k d h. le-leb (length (get_or operations k d)) 16 (few k d h))

passes_single : (operations : List (List (List Row))) (n : ℕ) → All (λ alternatives. length alternatives ≡ 1) operations → passes operations (suc n) ≡ operations
passes_single operations zero one =
    filter_all (λ alternatives. length alternatives == 1) operations (λ k d h. eq-eqb (length (get_or operations k d)) 1 (one k d h))
passes_single operations (suc n) one =
    ap (λ l. l ++ filter (λ alternatives. length alternatives == suc (suc n)) operations) (passes_single operations n one)
    ∙ ap (λ l. operations ++ l) (filter_none (λ alternatives. length alternatives == suc (suc n)) operations
    (λ k d h. let e : length (get_or operations k d) ≡ 1 = one k d h in
    let ne : length (get_or operations k d) ≢ suc (suc n) = omega arith in
    ne_eqb (length (get_or operations k d)) (suc (suc n)) ne))
    ∙ append-nil operations

-- where each operation has one alternative, they are taken in text order
pub by_freedom_single : (operations : List (List (List Row))) → All (λ alternatives. length alternatives ≡ 1) operations → by_freedom operations ≡ operations
by_freedom_single operations one = sym (passes_all operations) ∙ passes_single operations 15 one

-- passes for more alternatives than any operation has take nothing
passes_rest : (operations : List (List (List Row))) (most k : ℕ) → All (λ alternatives. length alternatives ≤ most) operations
    → passes operations (k + most) ≡ passes operations most
passes_rest operations most zero few = let same : 0 + most ≡ most = omega arith in ap (passes operations) same
passes_rest operations most (suc k) few =
    let next : suc k + most ≡ suc (k + most) = omega arith in
    ap (passes operations) next ∙ ap (λ l. l ++ filter (λ alternatives. length alternatives == suc (k + most)) operations) (passes_rest operations most k few)
    ∙ ap (λ l. passes operations most ++ l) (filter_none (λ alternatives. length alternatives == suc (k + most)) operations
    (λ i d h. let e : length (get_or operations i d) ≤ most = few i d h in
    let ne : length (get_or operations i d) ≢ suc (k + most) = omega arith in
    ne_eqb (length (get_or operations i d)) (suc (k + most)) ne))
    ∙ append-nil (passes operations most)

pub passes_past : (operations : List (List (List Row))) (most n : ℕ) → All (λ alternatives. length alternatives ≤ most) operations → most ≤ n
    → passes operations n ≡ passes operations most
passes_past operations most n few past =
    let all : n ≡ (n - most) + most = omega arith in
    ap (passes operations) all ∙ passes_rest operations most (n - most) few

-- what holds of each operation holds of each that a pass takes
pub passes_keep : (P : List (List Row) → Type 0) (operations : List (List (List Row))) (n : ℕ) → All P operations → All P (passes operations n)
passes_keep P operations zero h = All-nil P
passes_keep P operations (suc n) h =
    All-append P (passes operations n) (filter (λ alternatives. length alternatives == suc n) operations) (passes_keep P operations n h)
    (All-filter (λ alternatives. length alternatives == suc n) P operations h)
