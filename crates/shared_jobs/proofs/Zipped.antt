-- What is right at each place is right of all.
use Rattle.std.proofs.Common.{◌≡◌, ◌<◌, ℕ, suc, List, [], ◌∷◌, length, get_or, arith}
use Rattle.std.specs.List.{AllZip}

pub all_right : {A B : Type 0} (R : A → B → Type 0) (xs : List A) (ys : List B) → length ys ≡ length xs → ((k : ℕ) (x : A) (y : B) → k < length xs → R (get_or xs k x) (get_or ys k y)) → AllZip R xs ys
all_right R [] [] long right = tt
all_right R [] (y ∷ ys) long right = absurd (omega (arith, long))
all_right R (x ∷ xs) [] long right = absurd (omega (arith, long))
all_right R (x ∷ xs) (y ∷ ys) long right = (right 0 x y (omega arith), all_right R xs ys (omega (arith, long)) (λ k a b h. right (suc k) a b (omega (arith, h))))
