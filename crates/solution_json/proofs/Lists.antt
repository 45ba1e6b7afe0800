-- The steps of loops that make a list of JSON values, a value or a few for each of some things.
use Rattle.std.proofs.Common.{◌≡◌, ℕ, ◌+◌, ◌<◌, List, [], ◌∷◌, ◌++◌, length, map, get_or, take, Option, refl, sym, ap, ◌∙◌, append_assoc, arith}
use Rattle.std.specs.List.{cons_option, filter_map, flat_map, range_with_len}
use Rattle.std.proofs.lemmas.List.{append-nil, map-append, take_more}
use Rattle.std.proofs.lemmas.List.Elements.{filter_map-append}
use Rattle.std.proofs.lemmas.List.FromFn.{map-range_with_len_more}
use Rattle.serde_json.specs.Data.{Data}
use Rattle.serde_json.specs.View.{view}
use Rattle.serde_json.specs.declared.value.Value.{Value}

map-same : (xs : List ℕ) → map (λ x. x) xs ≡ xs
map-same [] = refl
map-same (x ∷ xs) = ap (λ ys. x ∷ ys) (map-same xs)

numbers-push : (n : ℕ) → range_with_len 0 (n + 1) ≡ range_with_len 0 n ++ n ∷ []
numbers-push n = sym (map-same (range_with_len 0 (n + 1))) ∙ map-range_with_len_more (λ x. x) 0 n n (omega arith) ∙ ap (λ xs. xs ++ n ∷ []) (map-same (range_with_len 0 n))

-- one value more
pub pushed : (before new : List Value) (value : Value) (d : Data) → new ≡ before ++ value ∷ [] → view value ≡ d → map view new ≡ map view before ++ d ∷ []
pushed before new value d n v = ap (map view) n ∙ map-append view before (value ∷ []) ∙ ap (λ (e : Data). map view before ++ e ∷ []) v

-- a value for each number from 0 on
pub numbered-more : (f : ℕ → Data) (before new : List Value) (value : Value) (k : ℕ) → map view before ≡ map f (range_with_len 0 k) → view value ≡ f k
    → new ≡ before ++ value ∷ [] → map view new ≡ map f (range_with_len 0 (k + 1))
numbered-more f before new value k b v n =
    pushed before new value (f k) n v ∙ ap (λ ds. ds ++ f k ∷ []) b
    ∙ sym (map-range_with_len_more f 0 k k (omega arith))

-- a value for each thing that a number, or one of a list, gives
chosen-push : {X A : Type 0} (g : A → Data) (f : X → Option A) (xs ys : List X) (x : X) (before new : List Data) → ys ≡ xs ++ x ∷ [] → before ≡ map g (filter_map f xs)
    → new ≡ before ++ map g (cons_option (f x) []) → new ≡ map g (filter_map f ys)
chosen-push {X} {A} g f xs ys x before new e b n =
    n ∙ ap (λ ds. ds ++ map g (cons_option (f x) [])) b ∙ sym (map-append g (filter_map f xs) (cons_option (f x) []))
    ∙ ap (map g) (sym (filter_map-append f xs (x ∷ []))) ∙ ap (λ (zs : List X). map g (filter_map f zs)) (sym e)

pub chosen_number-more : {A : Type 0} (g : A → Data) (f : ℕ → Option A) (k : ℕ) (before new : List Data) → before ≡ map g (filter_map f (range_with_len 0 k))
    → new ≡ before ++ map g (cons_option (f k) []) → new ≡ map g (filter_map f (range_with_len 0 (k + 1)))
chosen_number-more g f k before new b n = chosen-push g f (range_with_len 0 k) (range_with_len 0 (k + 1)) k before new (numbers-push k) b n

pub chosen_item-more : {X A : Type 0} (g : A → Data) (f : X → Option A) (xs : List X) (i : ℕ) (d : X) (before new : List Data) → i < length xs
    → before ≡ map g (filter_map f (take i xs)) → new ≡ before ++ map g (cons_option (f (get_or xs i d)) []) → new ≡ map g (filter_map f (take (i + 1) xs))
chosen_item-more g f xs i d before new within b n = chosen-push g f (take i xs) (take (i + 1) xs) (get_or xs i d) before new (take_more xs i d within) b n

-- the values that a number gives, at most one of each, after others
pub given-more : (f : ℕ → Option Data) (k : ℕ) (old before new : List Data) → before ≡ old ++ filter_map f (range_with_len 0 k)
    → new ≡ before ++ cons_option (f k) [] → new ≡ old ++ filter_map f (range_with_len 0 (k + 1))
given-more f k old before new b n =
    n ∙ ap (λ ds. ds ++ cons_option (f k) []) b ∙ append_assoc old (filter_map f (range_with_len 0 k)) (cons_option (f k) [])
    ∙ ap (λ ds. old ++ ds) (sym (filter_map-append f (range_with_len 0 k) (k ∷ [])) ∙ ap (filter_map f) (sym (numbers-push k)))

flat-append : (f : ℕ → List Data) (xs : List ℕ) (x : ℕ) → flat_map f (xs ++ x ∷ []) ≡ flat_map f xs ++ f x
flat-append f [] x = append-nil (f x)
flat-append f (y ∷ ys) x = ap (λ ds. f y ++ ds) (flat-append f ys x) ∙ sym (append_assoc (f y) (flat_map f ys) (f x))

-- a few values for each number from 0 on
pub several-more : (f : ℕ → List Data) (k : ℕ) (before new : List Data) → before ≡ flat_map f (range_with_len 0 k) → new ≡ before ++ f k
    → new ≡ flat_map f (range_with_len 0 (k + 1))
several-more f k before new b n =
    n ∙ ap (λ ds. ds ++ f k) b ∙ sym (flat-append f (range_with_len 0 k) k) ∙ ap (flat_map f) (sym (numbers-push k))
