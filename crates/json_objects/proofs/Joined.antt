-- Texts that are joined.
use Rattle.std.proofs.Common.{◌≡◌, ℕ, List, [], ◌∷◌, ◌++◌, map, refl, ap}
use Rattle.std.specs.List.{join_by}
use Rattle.std.proofs.lemmas.List.Folds.{flat_map-map}

-- what is joined may be made first
pub join-map : {A : Type 0} (f : A → List ℕ) (sep : List ℕ) (xs : List A) → join_by (λ (part : List ℕ). part) sep (map f xs) ≡ join_by f sep xs
join-map f sep [] = refl
join-map f sep (x ∷ xs) = ap (λ (t : List ℕ). f x ++ t) (flat_map-map (λ (part : List ℕ). sep ++ part) f xs)
