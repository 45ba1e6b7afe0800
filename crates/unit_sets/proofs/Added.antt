-- Lists of sets that grow.
use Rattle.std.proofs.Common.{◌≡◌, ℕ, ◌+◌, ◌<◌, inl, inr, List, [], ◌∷◌, ◌++◌, length, get_or, map, take, sym, ap, ◌∙◌, subst, arith}
use Rattle.std.proofs.lemmas.List.{take_more, append-nil}
use Rattle.std.proofs.lemmas.List.Elements.{Contains-append_left, Contains-append_right, Contains-append_cases}
use Rattle.std.proofs.lemmas.List.FromFn.{map-range_with_len_more}
use Rattle.std.proofs.lemmas.Grind.{flat_map-append}
use Rattle.std.specs.List.{flat_map, range_with_len}
use Rattle.unit_sets.specs.inner.Added.{IsAdded}

-- more are added
pub added-more : (before xs mid ys after : List ℕ) → IsAdded before xs mid → IsAdded mid ys after → IsAdded before (xs ++ ys) after
added-more before xs mid ys after first next = record {
  kept = λ set h. next.kept set (first.kept set h);
  there = λ set h. elim (Contains-append_cases xs ys set h) [
    | inl left ↦ next.kept set (first.there set left)
    | inr right ↦ next.there set right
  ];
  only = λ set h. elim (next.only set h) [
    | inl old ↦ elim (first.only set old) [
      | inl before ↦ inl before
      | inr added ↦ inr (Contains-append_left xs ys set added)
    ]
    | inr added ↦ inr (Contains-append_right xs ys set added)
  ];
}

-- one more of those that a function gives in order
added-place : (f : ℕ → ℕ) (before mid after : List ℕ) (place : ℕ) → IsAdded before (map f (range_with_len 0 place)) mid → IsAdded mid (f place ∷ []) after
    → IsAdded before (map f (range_with_len 0 (place + 1))) after
added-place f before mid after place first next =
    subst (λ added. IsAdded before added after) (sym (map-range_with_len_more f 0 place place (let e : 0 + place ≡ place = omega arith in e)))
    (added-more before (map f (range_with_len 0 place)) mid (f place ∷ []) after first next)

-- the pieces of one element more
added-piece : {X : Type 0} (f : X → List ℕ) (before mid after : List ℕ) (xs : List X) (i : ℕ) (d : X) → i < length xs → IsAdded before (flat_map f (take i xs)) mid
    → IsAdded mid (f (get_or xs i d)) after → IsAdded before (flat_map f (take (i + 1) xs)) after
added-piece f before mid after xs i d within first next =
    let e : flat_map f (take (i + 1) xs) ≡ flat_map f (take i xs) ++ f (get_or xs i d)
    = ap (flat_map f) (take_more xs i d within) ∙ flat_map-append f (take i xs) (get_or xs i d ∷ []) ∙ ap (λ l. flat_map f (take i xs) ++ l) (append-nil (f (get_or xs i d))) in
    subst (λ added. IsAdded before added after) (sym e) (added-more before (flat_map f (take i xs)) mid (f (get_or xs i d)) after first next)

-- the same, of a set that is the one the function gives
pub added-set : (before mid : List ℕ) (xs : List ℕ) (set other : ℕ) (after : List ℕ) → IsAdded before xs mid → set ≡ other → IsAdded mid (set ∷ []) after
    → IsAdded before (xs ++ other ∷ []) after
added-set before mid xs set other after first e next = added-more before xs mid (other ∷ []) after first (subst (λ s. IsAdded mid (s ∷ []) after) e next)

pub added-at : (f : ℕ → ℕ) (before mid : List ℕ) (set place : ℕ) (after : List ℕ) → IsAdded before (map f (range_with_len 0 place)) mid → set ≡ f place → IsAdded mid (set ∷ []) after
    → IsAdded before (map f (range_with_len 0 (place + 1))) after
added-at f before mid set place after first e next = added-place f before mid after place first (subst (λ s. IsAdded mid (s ∷ []) after) e next)

pub added-of : {X : Type 0} (f : X → List ℕ) (before mid : List ℕ) (xs : List X) (x : X) (i : ℕ) (d : X) (after : List ℕ) → i < length xs → IsAdded before (flat_map f (take i xs)) mid
    → x ≡ get_or xs i d → IsAdded mid (f x) after → IsAdded before (flat_map f (take (i + 1) xs)) after
added-of f before mid xs x i d after within first e next = added-piece f before mid after xs i d within first (subst (λ y. IsAdded mid (f y) after) e next)
