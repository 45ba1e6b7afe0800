-- Parts of a list that grows, and tests of a mapped list.
use Rattle.std.proofs.Common.{zero, suc, ◌≢◌, set, Some, ◌≡◌, ℕ, ◌-◌, ◌<◌, ◌≤◌, Bool, true, ◌||◌, List, [], ◌∷◌, ◌++◌, length, get_or, map, take, drop, refl, sym, ap, ◌∙◌, arith, length-drop}
use Rattle.std.specs.List.{list_any, slice_get, slice_range}
use Rattle.std.proofs.lemmas.List.{take-append-drop, take-append-le, drop-append-le, get_or_default}
use Rattle.std.proofs.lemmas.List.Folds.{Any-from_list_any}

pub list_any-map : {X Y : Type 0} (p : Y → Bool) (h : X → Y) (xs : List X) → list_any p (map h xs) ≡ list_any (λ x. p (h x)) xs
list_any-map p h [] = refl
list_any-map p h (x ∷ xs) = ap (λ b. p (h x) || b) (list_any-map p h xs)

-- where the test passes
pub list_any_place : {X : Type 0} (p : X → Bool) (xs : List X) → list_any p xs ≡ true → (k : ℕ) × (k < length xs) × ((d : X) → p (get_or xs k d) ≡ true)
list_any_place p xs h =
    let a = Any-from_list_any p xs h in
    (a.0, a.2, λ d. ap p (get_or_default xs a.0 d a.1 a.2 ∙ a.3) ∙ a.4)

pub slice_range-append : {X : Type 0} (xs ys : List X) (i j : ℕ) → i ≤ j → j ≤ length xs → slice_range (xs ++ ys) i j ≡ slice_range xs i j
slice_range-append xs ys i j o h =
    ap (take (j - i)) (drop-append-le i xs ys (omega arith)) ∙ take-append-le (j - i) (drop i xs) ys (omega (arith, length-drop i xs))

-- a part of a list is the same part of a longer list that begins with it
pub slice_range_kept : {X : Type 0} (xs ys : List X) (i j : ℕ) → take (length xs) ys ≡ xs → i ≤ j → j ≤ length xs → slice_range ys i j ≡ slice_range xs i j
slice_range_kept xs ys i j e o h =
    let whole : ys ≡ xs ++ drop (length xs) ys = sym (take-append-drop (length xs) ys) ∙ ap (λ zs. zs ++ drop (length xs) ys) e in
    ap (λ zs. slice_range zs i j) whole ∙ slice_range-append xs (drop (length xs) ys) i j o h

pub slice_get-set_same : {X : Type 0} (xs : List X) (i : ℕ) (x : X) → i < length xs → slice_get (set xs i x) i ≡ Some x
slice_get-set_same [] i x lt = absurd (omega arith)
slice_get-set_same (y ∷ xs) zero x lt = refl
slice_get-set_same (y ∷ xs) (suc i) x lt = slice_get-set_same xs i x (omega arith)

pub slice_get-set_other : {X : Type 0} (xs : List X) (i j : ℕ) (x : X) → j ≢ i → slice_get (set xs i x) j ≡ slice_get xs j
slice_get-set_other [] i j x ne = refl
slice_get-set_other (y ∷ xs) zero zero x ne = absurd (ne refl)
slice_get-set_other (y ∷ xs) zero (suc j) x ne = refl
slice_get-set_other (y ∷ xs) (suc i) zero x ne = refl
slice_get-set_other (y ∷ xs) (suc i) (suc j) x ne = slice_get-set_other xs i j x (λ e. ne (ap suc e))
