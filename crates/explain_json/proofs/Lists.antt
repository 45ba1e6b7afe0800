-- The steps of loops that make a list of JSON values.
use Rattle.std.proofs.Common.{◌≡◌, ℕ, zero, suc, ◌+◌, ◌<◌, List, [], ◌∷◌, ◌++◌, length, map, get_or, take, sym, ap, ◌∙◌, subst, append_assoc, arith}
use Rattle.std.specs.List.{All, AllZip, flat_map, range_with_len}
use Rattle.std.proofs.lemmas.List.{append-nil, map-append, take_more}
use Rattle.std.proofs.lemmas.List.FromFn.{get_or-range_with_len, length-range_with_len, map-range_with_len_more}
use Rattle.std.proofs.lemmas.Slice.Zip.{all_zipped_more}
use Rattle.serde_json.specs.Data.{Data}
use Rattle.serde_json.specs.View.{view}
use Rattle.serde_json.specs.declared.value.Value.{Value}
use Rattle.lower_bounds.proofs.Texts.{numbers-push}
use Rattle.told_choices.specs.declared.why.Why.{Why}
use Rattle.explain_json.specs.Tries.{failure_object, failures_from}

-- one value more
pub pushed : (before new : List Value) (value : Value) (d : Data) → new ≡ before ++ value ∷ [] → view value ≡ d → map view new ≡ map view before ++ d ∷ []
pushed before new value d n v = ap (map view) n ∙ map-append view before (value ∷ []) ∙ ap (λ (e : Data). map view before ++ e ∷ []) v

-- a value for each number from 0 on
pub numbered-more : (f : ℕ → Data) (before new : List Value) (value : Value) (k : ℕ) → map view before ≡ map f (range_with_len 0 k) → view value ≡ f k
    → new ≡ before ++ value ∷ [] → map view new ≡ map f (range_with_len 0 (k + 1))
numbered-more f before new value k b v n =
    pushed before new value (f k) n v ∙ ap (λ ds. ds ++ f k ∷ []) b
    ∙ sym (map-range_with_len_more f 0 k k (omega arith))

flat-append : (f : ℕ → List Data) (xs : List ℕ) (x : ℕ) → flat_map f (xs ++ x ∷ []) ≡ flat_map f xs ++ f x
flat-append f [] x = append-nil (f x)
flat-append f (y ∷ ys) x = ap (λ ds. f y ++ ds) (flat-append f ys x) ∙ sym (append_assoc (f y) (flat_map f ys) (f x))

-- a few values for each number from 0 on, after others
pub several-more : (f : ℕ → List Data) (k : ℕ) (old before new : List Data) → before ≡ old ++ flat_map f (range_with_len 0 k) → new ≡ before ++ f k
    → new ≡ old ++ flat_map f (range_with_len 0 (k + 1))
several-more f k old before new b n =
    n ∙ ap (λ ds. ds ++ f k) b ∙ append_assoc old (flat_map f (range_with_len 0 k)) (f k)
    ∙ ap (λ ds. old ++ ds) (sym (flat-append f (range_with_len 0 k) k) ∙ ap (flat_map f) (sym (numbers-push k)))

-- things that are told relationally, one more
pub zipped-more : {A : Type 0} (R : A → Data → Type 0) (xs : List A) (i : ℕ) (d : A) (objects : List Data) (told : Data) → i < length xs → AllZip R (take i xs) objects
    → R (get_or xs i d) told → AllZip R (take (i + 1) xs) (objects ++ told ∷ [])
zipped-more {A = A} R xs i d objects told within are r =
    subst (λ (zs : List A). AllZip R zs (objects ++ told ∷ [])) (sym (take_more xs i d within)) (all_zipped_more R (take i xs) objects (get_or xs i d) told are r)

-- one interval more
pub failures-push : (ii k : ℕ) (reasons : List Why) (reason : Why) → length reasons ≡ k
    → failures_from ii (reasons ++ reason ∷ []) ≡ failures_from ii reasons ++ failure_object (ii + k) reason ∷ []
failures-push ii k [] reason long = ap (λ n. failure_object n reason ∷ []) (let e : ii ≡ ii + k = omega arith in e)
failures-push ii zero (r ∷ rs) reason long = absurd (omega arith)
failures-push ii (suc k) (r ∷ rs) reason long =
    ap (λ ds. failure_object ii r ∷ ds)
    (failures-push (ii + 1) k rs reason (omega arith) ∙ ap (λ n. failures_from (ii + 1) rs ++ failure_object n reason ∷ []) (let e : (ii + 1) + k ≡ ii + suc k = omega arith in e))

-- numbers below a count
pub range-below : (n : ℕ) → All (λ k. k < n) (range_with_len 0 n)
range-below n k d lt =
    let l : length (range_with_len 0 n) ≡ n = length-range_with_len 0 n in
    let e : get_or (range_with_len 0 n) k d ≡ 0 + k = get_or-range_with_len 0 n k d (omega arith) in
    omega arith
