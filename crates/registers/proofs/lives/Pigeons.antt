-- Things that stand in places of their own are at most as many as there are places.
use Rattle.std.proofs.Common.{◌≡◌, ◌≢◌, ℕ, suc, zero, ◌+◌, ◌<◌, ◌≤◌, true, false, List, [], ◌∷◌, length, sym, subst, inl, inr, arith, eqb}
use Rattle.std.proofs.lemmas.Bool.{eqb-true, ne_eqb, or_cases}
use Rattle.std.proofs.lemmas.Map.Keys.{IsDistinct-cons}
use Rattle.std.proofs.lemmas.Map.Steps.{length-le_from_distinct_below}
use Rattle.std.specs.List.{list_any, IsDistinct, AllByRecursion}
use Rattle.registers.specs.Crowds.{total}

-- the places of a number of things, and after them others
abbrev places : (ℕ → ℕ) → ℕ → List ℕ → List ℕ
places place zero others = others
places place (suc m) others = place m ∷ places place m others

-- the same of a number of groups
abbrev all_places : (ℕ → ℕ → ℕ) → (ℕ → ℕ) → ℕ → List ℕ
all_places place count zero = []
all_places place count (suc n) = places (place n) (count n) (all_places place count n)

abbrev Differs : ℕ → List ℕ → Type 0
Differs x xs = AllByRecursion (λ y. eqb x y ≡ false) xs

differs-places : (x : ℕ) (place : ℕ → ℕ) (m : ℕ) (others : List ℕ) → ((i : ℕ) → i < m → x ≢ place i) → Differs x others → Differs x (places place m others)
differs-places x place zero others apart h = h
differs-places x place (suc m) others apart h = (ne_eqb x (place m) (apart m (omega arith)), differs-places x place m others (λ i l. apart i (omega arith)) h)

differs-all : (x : ℕ) (place : ℕ → ℕ → ℕ) (count : ℕ → ℕ) (n : ℕ) → ((k i : ℕ) → k < n → i < count k → x ≢ place k i) → Differs x (all_places place count n)
differs-all x place count zero apart = tt
differs-all x place count (suc n) apart =
    differs-places x (place n) (count n) (all_places place count n) (λ i l. apart n i (omega arith) l)
    (differs-all x place count n (λ k i l. apart k i (omega arith)))

distinct-places : (place : ℕ → ℕ) (m : ℕ) (others : List ℕ) → IsDistinct eqb others
    → ((i j : ℕ) → i < m → j < m → place i ≡ place j → i ≡ j) → ((i : ℕ) → i < m → Differs (place i) others)
    → IsDistinct eqb (places place m others)
distinct-places place zero others h one apart = h
distinct-places place (suc m) others h one apart =
    IsDistinct-cons eqb (place m) (places place m others)
    (differs-places (place m) place m others (λ i l e. let s : m ≡ i = one m i (omega arith) (omega arith) e in omega arith) (apart m (omega arith)))
    (distinct-places place m others h (λ i j l k. one i j (omega arith) (omega arith)) (λ i l. apart i (omega arith)))

-- no two things are in one place
abbrev pub AreApart : (ℕ → ℕ → ℕ) → (ℕ → ℕ) → ℕ → Type 0
AreApart place count n = (k l i j : ℕ) → k < n → l < n → i < count k → j < count l → place k i ≡ place l j → (k ≡ l) × (i ≡ j)

distinct-all : (place : ℕ → ℕ → ℕ) (count : ℕ → ℕ) (n : ℕ) → AreApart place count n → IsDistinct eqb (all_places place count n)
unfolding IsDistinct
distinct-all place count zero apart = tt
distinct-all place count (suc n) apart =
    distinct-places (place n) (count n) (all_places place count n)
    (distinct-all place count n (λ k l i j a b. apart k l i j (omega arith) (omega arith)))
    (λ i j a b e. (apart n n i j (omega arith) (omega arith) a b e).1)
    (λ i a. differs-all (place n i) place count n (λ k j b d e. let s : n ≡ k = (apart n k i j (omega arith) (omega arith) a d e).0 in omega arith))

below-places : (top : ℕ) (place : ℕ → ℕ) (m : ℕ) (others : List ℕ) → ((i : ℕ) → place i < top) → ((x : ℕ) → list_any (eqb x) others ≡ true → x < top)
    → (x : ℕ) → list_any (eqb x) (places place m others) ≡ true → x < top
below-places top place zero others low h x any = h x any
below-places top place (suc m) others low h x any = elim (or_cases (eqb x (place m)) (list_any (eqb x) (places place m others)) any) [
  | inl here ↦ subst (λ y. y < top) (sym (eqb-true x (place m) here)) (low m)
  | inr there ↦ below-places top place m others low h x there
]

below-all : (top : ℕ) (place : ℕ → ℕ → ℕ) (count : ℕ → ℕ) (n : ℕ) → ((k i : ℕ) → place k i < top) → (x : ℕ) → list_any (eqb x) (all_places place count n) ≡ true → x < top
below-all top place count zero low x any = cc
below-all top place count (suc n) low x any = below-places top (place n) (count n) (all_places place count n) (low n) (below-all top place count n low) x any

length-places : (place : ℕ → ℕ) (m : ℕ) (others : List ℕ) → length (places place m others) ≡ m + length others
length-places place zero others = omega arith
length-places place (suc m) others = let e = length-places place m others in omega arith

length-all : (place : ℕ → ℕ → ℕ) (count : ℕ → ℕ) (n : ℕ) → length (all_places place count n) ≡ total count n
length-all place count zero = omega arith
length-all place count (suc n) =
    let e = length-all place count n in
    let f = length-places (place n) (count n) (all_places place count n) in
    omega arith

pub total-le : (top : ℕ) (place : ℕ → ℕ → ℕ) (count : ℕ → ℕ) (n : ℕ) → ((k i : ℕ) → place k i < top) → AreApart place count n → total count n ≤ top
total-le top place count n low apart =
    let few = length-le_from_distinct_below (all_places place count n) top (distinct-all place count n apart) (below-all top place count n low) in
    let e = length-all place count n in
    omega arith
