-- Texts that are the same piece by piece.
use Rattle.std.proofs.Common.{◌≡◌, ◌<◌, ℕ, suc, List, [], ◌∷◌, ◌++◌, length, get_or, refl, ap₂, arith}
use Rattle.std.specs.List.{flat_map}

-- pieces that are the same one by one
pub flat_same : {A B : Type 0} (f : A → List ℕ) (g : B → List ℕ) (xs : List A) (ys : List B) → length ys ≡ length xs
    → ((k : ℕ) (x : A) (y : B) → k < length xs → g (get_or ys k y) ≡ f (get_or xs k x)) → flat_map g ys ≡ flat_map f xs
flat_same f g [] [] long same = refl
flat_same f g [] (y ∷ ys) long same = absurd (omega (arith, long))
flat_same f g (x ∷ xs) [] long same = absurd (omega (arith, long))
flat_same f g (x ∷ xs) (y ∷ ys) long same =
    ap₂ (λ (s t : List ℕ). s ++ t) (same 0 x y (omega arith)) (flat_same f g xs ys (omega (arith, long)) (λ k a b h. same (suc k) a b (omega (arith, h))))
