-- The steps of loops that append a text for each of some things.
use Rattle.std.proofs.Common.{◌≡◌, ℕ, ◌+◌, ◌<◌, List, [], ◌∷◌, ◌++◌, length, map, get_or, take, refl, sym, ap, ◌∙◌, append_assoc, arith}
use Rattle.std.specs.List.{flat_map, range_with_len}
use Rattle.std.proofs.lemmas.List.{flat_map_more, take_more}
use Rattle.std.proofs.lemmas.List.FromFn.{map-range_with_len_more}

map-same : (xs : List ℕ) → map (λ x. x) xs ≡ xs
map-same [] = refl
map-same (x ∷ xs) = ap (λ ys. x ∷ ys) (map-same xs)

numbers-push : (n : ℕ) → range_with_len 0 (n + 1) ≡ range_with_len 0 n ++ n ∷ []
numbers-push n = sym (map-same (range_with_len 0 (n + 1))) ∙ map-range_with_len_more (λ x. x) 0 n n (omega arith) ∙ ap (λ xs. xs ++ n ∷ []) (map-same (range_with_len 0 n))

-- over numbers from 0 on
pub numbered-more : (f : ℕ → List ℕ) (old before new : List ℕ) (k : ℕ) → before ≡ old ++ flat_map f (range_with_len 0 k) → new ≡ before ++ f k
    → new ≡ old ++ flat_map f (range_with_len 0 (k + 1))
numbered-more f old before new k b n =
    n ∙ ap (λ t. t ++ f k) b ∙ flat_map_more f old (range_with_len 0 k) k ∙ ap (λ ns. old ++ flat_map f ns) (sym (numbers-push k))

-- over a list
pub listed-more : {X : Type 0} (f : X → List ℕ) (old before new : List ℕ) (xs : List X) (i : ℕ) (d : X) → i < length xs → before ≡ old ++ flat_map f (take i xs)
    → new ≡ before ++ f (get_or xs i d) → new ≡ old ++ flat_map f (take (i + 1) xs)
listed-more {X} f old before new xs i d within b n =
    n ∙ ap (λ t. t ++ f (get_or xs i d)) b ∙ flat_map_more f old (take i xs) (get_or xs i d) ∙ ap (λ (ys : List X). old ++ flat_map f ys) (sym (take_more xs i d within))

-- one more piece after those before it
pub and-then : (old before mid more new : List ℕ) → mid ≡ old ++ before → new ≡ mid ++ more → new ≡ old ++ (before ++ more)
and-then old before mid more new a b = b ∙ ap (λ t. t ++ more) a ∙ append_assoc old before more
