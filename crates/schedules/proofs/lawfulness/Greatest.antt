-- The greatest of stages, one after another.
use Rattle.std.proofs.Common.{◌≡◌, ℕ, ◌+◌, ◌<◌, max, List, [], ◌∷◌, ◌++◌, length, map, take, get_or, sym, ap, ◌∙◌, arith}
use Rattle.std.proofs.lemmas.List.{map-append, take_more}
use Rattle.unit_bound.specs.Units.{greatest_of}

greatest_push : (xs : List ℕ) (x : ℕ) → greatest_of (xs ++ x ∷ []) ≡ max (greatest_of xs) x
greatest_push [] x = omega arith
greatest_push (y ∷ xs) x = let h : greatest_of (xs ++ x ∷ []) ≡ max (greatest_of xs) x = greatest_push xs x in omega arith

pub greatest_more : (f : ℕ → ℕ) (xs : List ℕ) (i greatest : ℕ) → i < length xs → greatest ≡ greatest_of (map f (take i xs))
    → max greatest (f (get_or xs i 0)) ≡ greatest_of (map f (take (i + 1) xs))
greatest_more f xs i greatest there so_far =
    ap (λ g. max g (f (get_or xs i 0))) so_far
    ∙ sym (ap (λ l. greatest_of (map f l)) (take_more xs i 0 there) ∙ ap greatest_of (map-append f (take i xs) (get_or xs i 0 ∷ []))
    ∙ greatest_push (map f (take i xs)) (f (get_or xs i 0)))
