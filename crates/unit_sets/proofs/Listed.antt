-- The units of a set as a list.
use Rattle.std.proofs.Common.{◌≡◌, ℕ, zero, suc, ◌+◌, ◌*◌, ◌/◌, ◌%◌, ◌^◌, ◌<◌, ◌≤◌, ◌||◌, ◌&&◌, Bool, true, false, cond, List, [], ◌∷◌, length, refl, sym, ap, ◌∙◌, subst, inl, inr, add-one, arith, eqb, filter}
use Rattle.std.proofs.lemmas.Bool.{cases_Bool, cases_lt, cases_eq, eq-eqb, ne_eqb, eqb-true, cond_both, false≢true}
use Rattle.std.proofs.lemmas.Nat.{ones_cat}
use Rattle.std.proofs.Math.Nat.{div-div-eq-div-mul, div-one}
use Rattle.std.specs.Int.Count.{ones}
use native.Mathlib.Numerals.{unary_clauses}
use Rattle.std.specs.List.{range_with_len}
use Rattle.unit_sets.specs.Sets.{is_in}
use Rattle.unit_sets.specs.Fullest.{has_unit, units_in}

is_in-filter_yes : (p : ℕ → Bool) (xs : List ℕ) (v : ℕ) → p v ≡ true → is_in (filter p xs) v ≡ is_in xs v
is_in-filter_yes p [] v passed = refl
is_in-filter_yes p (x ∷ xs) v passed =
    let rest : is_in (filter p xs) v ≡ is_in xs v = is_in-filter_yes p xs v passed in
    cond_both (p x) (x ∷ filter p xs) (filter p xs) (λ l. is_in l v ≡ (eqb x v || is_in xs v))
    (λ same. ap (λ b. eqb x v || b) rest)
    (λ refused. elim (cases_Bool (eqb x v)) [
      | inl e ↦ (let w : p v ≡ false = ap p (sym (eqb-true x v e)) ∙ refused in cc)
      | inr e ↦ rest ∙ ap (λ b. b || is_in xs v) (sym e)
    ])

is_in-filter_no : (p : ℕ → Bool) (xs : List ℕ) (v : ℕ) → p v ≡ false → is_in (filter p xs) v ≡ false
is_in-filter_no p [] v refused = refl
is_in-filter_no p (x ∷ xs) v refused =
    let rest : is_in (filter p xs) v ≡ false = is_in-filter_no p xs v refused in
    cond_both (p x) (x ∷ filter p xs) (filter p xs) (λ l. is_in l v ≡ false)
    (λ passed. elim (cases_Bool (eqb x v)) [
      | inl e ↦ (let w : p v ≡ true = ap p (sym (eqb-true x v e)) ∙ passed in cc)
      | inr e ↦ ap (λ b. b || is_in (filter p xs) v) e ∙ rest
    ])
    (λ other. rest)

is_in-filter : (p : ℕ → Bool) (xs : List ℕ) (v : ℕ) → is_in (filter p xs) v ≡ (p v && is_in xs v)
is_in-filter p xs v = elim (cases_Bool (p v)) [
  | inl passed ↦ is_in-filter_yes p xs v passed ∙ ap (λ b. b && is_in xs v) (sym passed)
  | inr refused ↦ is_in-filter_no p xs v refused ∙ ap (λ b. b && is_in xs v) (sym refused)
]

is_in-range : (a n v : ℕ) → a ≤ v → v < a + n → is_in (range_with_len a n) v ≡ true
is_in-range a zero v low high = absurd (omega arith)
is_in-range a (suc n) v low high = elim (cases_eq a v) [
  | inl e ↦ ap (λ b. b || is_in (range_with_len (a + 1) n) v) (eq-eqb a v e)
  | inr e ↦ (ap (λ b. b || is_in (range_with_len (a + 1) n) v) (ne_eqb a v e)
      ∙ is_in-range (a + 1) n v (elim (cases_lt a v) [ inl l ↦ omega arith | inr g ↦ absurd (e (omega arith)) ]) (omega arith))
]

is_in-range_above : (a n v : ℕ) → a + n ≤ v → is_in (range_with_len a n) v ≡ false
is_in-range_above a zero v high = refl
is_in-range_above a (suc n) v high =
    ap (λ b. b || is_in (range_with_len (a + 1) n) v) (ne_eqb a v (λ e. omega arith)) ∙ is_in-range_above (a + 1) n v (omega arith)

and_true : (b : Bool) → (b && true) ≡ b
and_true true = refl
and_true false = refl

and_false : (b : Bool) → (b && false) ≡ false
and_false true = refl
and_false false = refl

-- a unit below 64 is one of the set if its bit is set
pub is_in-units : (set unit : ℕ) → unit < 64 → is_in (units_in set) unit ≡ has_unit set unit
unfolding units_in
is_in-units set unit below = is_in-filter (has_unit set) (range_with_len 0 64) unit ∙ ap (λ b. has_unit set unit && b) (is_in-range 0 64 unit (omega arith) (omega arith)) ∙ and_true (has_unit set unit)

pub is_in-units_above : (set unit : ℕ) → 64 ≤ unit → is_in (units_in set) unit ≡ false
unfolding units_in
is_in-units_above set unit above = is_in-filter (has_unit set) (range_with_len 0 64) unit ∙ ap (λ b. has_unit set unit && b) (is_in-range_above 0 64 unit (omega arith)) ∙ and_false (has_unit set unit)

length-some_or : (b : Bool) (x : ℕ) (xs : List ℕ) (n : ℕ) → n < 2 → (eqb n 1 ≡ b) → length (cond b (x ∷ xs) xs) ≡ length xs + n
length-some_or true x xs n small h = let e : n ≡ 1 = eqb-true n 1 h in omega arith
length-some_or false x xs n small h = let e : n ≡ 1 → ⊥ = λ e. absurd (false≢true (sym h ∙ eq-eqb n 1 e)) in omega arith

ones_of_bit : (n : ℕ) → n < 2 → ones n ≡ n
unfolding ones
ones_of_bit zero h = refl
ones_of_bit (suc zero) h = refl
ones_of_bit (suc (suc n)) h = absurd (omega arith)

pow-suc : (n : ℕ) → 2 ^ suc n ≡ 2 * 2 ^ n
pow-suc n = simp unary_clauses (omega arith)

pow-suc' : (n : ℕ) → 2 ^ (n + 1) ≡ 2 ^ n * 2
pow-suc' n = simp (add-one, unary_clauses) (omega arith)

length-from : (set n a : ℕ) → set / 2 ^ a < 2 ^ n → ones (set / 2 ^ a) ≡ length (filter (has_unit set) (range_with_len a n))
unfolding ones
length-from set zero a small = ap ones (let e : set / 2 ^ a ≡ 0 = let s : set / 2 ^ a < 1 = small in omega arith in e)
length-from set (suc n) a small =
    let q = set / 2 ^ a in
    let half : q / 2 ≡ set / 2 ^ (a + 1) = div-div-eq-div-mul set (2 ^ a) 2 ∙ ap (λ m. set / m) (sym (pow-suc' a)) in
    let bound : q < 2 * 2 ^ n = subst (λ m. q < m) (pow-suc n) small in
    let less : set / 2 ^ (a + 1) < 2 ^ n = subst (λ m. m < 2 ^ n) half (omega arith) in
    let parts : q ≡ q / 2 * 2 ^ 1 + q % 2 = omega arith in
    let split : ones (q / 2 * 2 ^ 1 + q % 2) ≡ ones (q / 2) + ones (q % 2) = ones_cat 1 (q / 2) (q % 2) (omega arith) in
    let bit : ones (q % 2) ≡ q % 2 = ones_of_bit (q % 2) (omega arith) in
    let rest : ones (q / 2) ≡ length (filter (has_unit set) (range_with_len (a + 1) n)) = ap ones half ∙ length-from set n (a + 1) less in
    let one : length (filter (has_unit set) (range_with_len a (suc n))) ≡ length (filter (has_unit set) (range_with_len (a + 1) n)) + q % 2
    = length-some_or (has_unit set a) a (filter (has_unit set) (range_with_len (a + 1) n)) (q % 2) (omega arith) refl in
    ap ones parts ∙ split ∙ (let e : ones (q / 2) + ones (q % 2) ≡ length (filter (has_unit set) (range_with_len a (suc n))) = omega arith in e)

-- a set has as many units as bits that are set
pub length-units : (set : ℕ) → set < 2 ^ 64 → ones set ≡ length (units_in set)
unfolding units_in
length-units set small =
    let e : set / 2 ^ 0 ≡ set = div-one set in
    ap ones (sym e) ∙ length-from set 64 0 (subst (λ m. m < 2 ^ 64) (sym e) small)
