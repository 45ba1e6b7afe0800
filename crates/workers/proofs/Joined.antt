-- Two lists whose elements belong to one another.
use Rattle.std.proofs.Common.{◌≡◌, List, [], ◌∷◌, length, refl, subst, arith}
use Rattle.std.specs.List.{AllZip}

module _ {A B : Type 0} (R : A → B → Type 0) where
  -- they have one length
  pub zipped_long : (xs : List A) (ys : List B) → AllZip R xs ys → length ys ≡ length xs
  zipped_long [] [] h = refl
  zipped_long [] (y ∷ ys) h = absurd h
  zipped_long (x ∷ xs) [] h = absurd h
  zipped_long (x ∷ xs) (y ∷ ys) h = let k = zipped_long xs ys h.1 in omega arith

  -- .. and so do they after the first of each
  pub zipped_after : (before left : List A) (found after : List B) (x : A) (y : B) → AllZip R before found → before ≡ x ∷ left → found ≡ y ∷ after → AllZip R left after
  zipped_after before left found after x y h at there =
      let both : AllZip R (x ∷ left) (y ∷ after) = subst (AllZip R (x ∷ left)) there (subst (λ (xs : List A). AllZip R xs found) at h) in
      both.1
