-- Parts of lists, and what tests find in lists that are joined or made of others.
use Rattle.std.proofs.Common.{◌≡◌, ℕ, zero, suc, ◌<◌, Bool, true, false, List, [], ◌∷◌, ◌++◌, length, map, get_or, Option, Some, None, refl, ◌∙◌, ap, subst, arith}
use Rattle.std.specs.List.{AllPairs, AllByRecursion, list_any, filter_map, cons_option, slice_get}
use Rattle.std.proofs.lemmas.Bool.{or_from, or_left, or_right}
use Rattle.std.proofs.lemmas.List.{get_or_append_left, get_or_at, length-append}
use Rattle.std.proofs.lemmas.List.Elements.{recursion_from_All}
use Rattle.std.proofs.lemmas.List.Folds.{list_any-append}
use Rattle.std.proofs.lemmas.Option.{none-some, same_Some}

-- an element and those before it

first-after : {X : Type 0} (front : List X) (x : X) (after : List X) → slice_get (front ++ x ∷ after) (length front) ≡ Some x
first-after [] x after = refl
first-after (y ∷ front) x after = first-after front x after

pub at-front : {X : Type 0} (xs front : List X) (x : X) (after : List X) → xs ≡ front ++ x ∷ after → slice_get xs (length front) ≡ Some x
at-front xs front x after e = ap (λ ys. slice_get ys (length front)) e ∙ first-after front x after

pub front-within : {X : Type 0} (xs front : List X) (x : X) (after : List X) → xs ≡ front ++ x ∷ after → length front < length xs
front-within xs front x after e = omega (arith, ap length e, length-append front (x ∷ after))

-- facts of all elements

pub all-at : {X : Type 0} (P : X → Type 0) (xs : List X) (k : ℕ) (x : X) → AllByRecursion P xs → slice_get xs k ≡ Some x → P x
all-at P [] k x h e = absurd (none-some x e)
all-at P (y ∷ ys) zero x h e = subst P (same_Some y x e) h.0
all-at P (y ∷ ys) (suc k) x h e = all-at P ys k x h.1 e

pub all-left : {X : Type 0} (P : X → Type 0) (xs ys : List X) → AllByRecursion P (xs ++ ys) → AllByRecursion P xs
all-left P [] ys h = tt
all-left P (x ∷ xs) ys h = (h.0, all-left P xs ys h.1)

pub all-right : {X : Type 0} (P : X → Type 0) (xs ys : List X) → AllByRecursion P (xs ++ ys) → AllByRecursion P ys
all-right P [] ys h = h
all-right P (x ∷ xs) ys h = all-right P xs ys h.1

pub all-weaker : {X : Type 0} (P Q : X → Type 0) → ((x : X) → P x → Q x) → (xs : List X) → AllByRecursion P xs → AllByRecursion Q xs
all-weaker P Q weaker [] h = tt
all-weaker P Q weaker (x ∷ xs) h = (weaker x h.0, all-weaker P Q weaker xs h.1)

pub all-both : {X : Type 0} (P Q R : X → Type 0) → ((x : X) → P x → Q x → R x) → (xs : List X) → AllByRecursion P xs → AllByRecursion Q xs → AllByRecursion R xs
all-both P Q R both [] h k = tt
all-both P Q R both (x ∷ xs) h k = (both x h.0 k.0, all-both P Q R both xs h.1 k.1)

pub all-unmapped : {X Y : Type 0} (P : Y → Type 0) (f : X → Y) (xs : List X) → AllByRecursion P (map f xs) → AllByRecursion (λ x. P (f x)) xs
all-unmapped P f [] h = tt
all-unmapped P f (x ∷ xs) h = (h.0, all-unmapped P f xs h.1)

kept-head : {Y : Type 0} (P : Y → Type 0) (o : Option Y) (ys : List Y) → AllByRecursion P (cons_option o ys) → (y : Y) → o ≡ Some y → P y
kept-head P None ys h y e = absurd (none-some y e)
kept-head P (Some z) ys h y e = subst P (same_Some z y e) h.0

kept-tail : {Y : Type 0} (P : Y → Type 0) (o : Option Y) (ys : List Y) → AllByRecursion P (cons_option o ys) → AllByRecursion P ys
kept-tail P None ys h = h
kept-tail P (Some z) ys h = h.1

pub all-unfiltered : {X Y : Type 0} (P : Y → Type 0) (f : X → Option Y) (xs : List X) → AllByRecursion P (filter_map f xs) → AllByRecursion (λ x. (y : Y) → f x ≡ Some y → P y) xs
all-unfiltered P f [] h = tt
all-unfiltered P f (x ∷ xs) h = (kept-head P (f x) (filter_map f xs) h, all-unfiltered P f xs (kept-tail P (f x) (filter_map f xs) h))

pair : {X : Type 0} (R : X → X → Type 0) (xs front : List X) (x : X) (after : List X) → AllPairs R xs → xs ≡ front ++ x ∷ after → (k : ℕ) (d : X) → k < length front → R (get_or front k d) x
pair R xs front x after pairs e k d h =
    let first : get_or xs k d ≡ get_or front k d = ap (λ ys. get_or ys k d) e ∙ get_or_append_left front (x ∷ after) d k h in
    let second : get_or xs (length front) d ≡ x = ap (λ ys. get_or ys (length front) d) e ∙ get_or_at front x after d (length front) refl in
    subst (λ y. R y x) first (subst (λ y. R (get_or xs k d) y) second (pairs k (length front) d h (front-within xs front x after e)))

-- what holds of each pair holds of an element and each before it
pub pairs-front : {X : Type 0} (R : X → X → Type 0) (xs front : List X) (x : X) (after : List X) → AllPairs R xs → xs ≡ front ++ x ∷ after → AllByRecursion (λ y. R y x) front
pairs-front R xs front x after pairs e = recursion_from_All (λ y. R y x) front (λ k d h. pair R xs front x after pairs e k d h)

-- tests

pub none-joined : {X : Type 0} (p : X → Bool) (xs ys : List X) → list_any p xs ≡ false → list_any p ys ≡ false → list_any p (xs ++ ys) ≡ false
none-joined p xs ys h k = list_any-append p xs ys ∙ or_from (list_any p xs) (list_any p ys) h k

pub some-left : {X : Type 0} (p : X → Bool) (xs ys : List X) → list_any p xs ≡ true → list_any p (xs ++ ys) ≡ true
some-left p xs ys h = list_any-append p xs ys ∙ or_left (list_any p xs) (list_any p ys) h

pub some-right : {X : Type 0} (p : X → Bool) (xs ys : List X) → list_any p ys ≡ true → list_any p (xs ++ ys) ≡ true
some-right p xs ys h = list_any-append p xs ys ∙ or_right (list_any p xs) (list_any p ys) h

-- no element is made into one that passes
pub none-mapped : {X Y : Type 0} (p : Y → Bool) (f : X → Y) (xs : List X) → AllByRecursion (λ x. p (f x) ≡ false) xs → list_any p (map f xs) ≡ false
none-mapped p f [] h = refl
none-mapped p f (x ∷ xs) h = or_from (p (f x)) (list_any p (map f xs)) h.0 (none-mapped p f xs h.1)

pub all-each : {X : Type 0} (P : X → Type 0) → ((x : X) → P x) → (xs : List X) → AllByRecursion P xs
all-each P each [] = tt
all-each P each (x ∷ xs) = (each x, all-each P each xs)

pub none-made : {X Y : Type 0} (p : Y → Bool) (f : X → Y) → ((x : X) → p (f x) ≡ false) → (xs : List X) → list_any p (map f xs) ≡ false
none-made p f each xs = none-mapped p f xs (all-each (λ x. p (f x) ≡ false) each xs)
