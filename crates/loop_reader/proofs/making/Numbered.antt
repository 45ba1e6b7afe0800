-- Elements of lists by their numbers.
use Rattle.std.proofs.Common.{◌≡◌, ℕ, zero, suc, ◌+◌, ◌<◌, ◌≤◌, List, [], ◌∷◌, ◌++◌, length, map, get_or, Option, Some, None, refl, sym, ◌∙◌, ap, subst, arith, ⊎_elim}
use Rattle.std.specs.List.{AllPairs, AllByRecursion, filter_map, cons_option, slice_get}
use Rattle.std.proofs.lemmas.Bool.{cases_eq}
use Rattle.std.proofs.lemmas.Option.{none-some, same_Some}

-- each element, by its number from `n` on
abbrev pub EachFrom : {X : Type 0} → (ℕ → X → Type 0) → ℕ → List X → Type 0
EachFrom P n [] = Unit {0}
EachFrom P n (x ∷ xs) = P n x × EachFrom P (n + 1) xs

pub each-get : {X : Type 0} (P : ℕ → X → Type 0) (n : ℕ) (xs : List X) → EachFrom P n xs → (k : ℕ) (x : X) → slice_get xs k ≡ Some x → P (n + k) x
each-get P n [] h k x e = absurd (none-some x e)
each-get P n (y ∷ ys) h zero x e =
    let z : n ≡ n + 0 = omega arith in
    subst (λ m. P m x) z (subst (P n) (same_Some y x e) h.0)
each-get P n (y ∷ ys) h (suc k) x e =
    let z : (n + 1) + k ≡ n + suc k = omega arith in
    subst (λ m. P m x) z (each-get P (n + 1) ys h.1 k x e)

pub each-weaker : {X : Type 0} (P Q : ℕ → X → Type 0) → ((m : ℕ) (x : X) → P m x → Q m x) → (n : ℕ) (xs : List X) → EachFrom P n xs → EachFrom Q n xs
each-weaker P Q w n [] h = tt
each-weaker P Q w n (x ∷ xs) h = (w n x h.0, each-weaker P Q w (n + 1) xs h.1)

pub each-map : {X Y : Type 0} (P : ℕ → Y → Type 0) (f : X → Y) (n : ℕ) (xs : List X) → EachFrom (λ m x. P m (f x)) n xs → EachFrom P n (map f xs)
each-map P f n [] h = tt
each-map P f n (x ∷ xs) h = (h.0, each-map P f (n + 1) xs h.1)

pub each-all : {X : Type 0} (P : ℕ → X → Type 0) (Q : X → Type 0) → ((m : ℕ) (x : X) → P m x → Q x) → (n : ℕ) (xs : List X) → EachFrom P n xs → AllByRecursion Q xs
each-all P Q w n [] h = tt
each-all P Q w n (x ∷ xs) h = (w n x h.0, each-all P Q w (n + 1) xs h.1)

pub each-length : {X : Type 0} (P : ℕ → X → Type 0) (limit : ℕ) → ((m : ℕ) (x : X) → P m x → m < limit) → (n : ℕ) (xs : List X) → n ≤ limit → EachFrom P n xs → n + length xs ≤ limit
each-length P limit w n [] l h = omega arith
each-length P limit w n (x ∷ xs) l h =
    let k = w n x h.0 in
    let r = each-length P limit w (n + 1) xs (omega arith) h.1 in
    omega arith

pub all-join : {X : Type 0} (P : X → Type 0) (xs ys : List X) → AllByRecursion P xs → AllByRecursion P ys → AllByRecursion P (xs ++ ys)
all-join P [] ys h k = k
all-join P (x ∷ xs) ys h k = (h.0, all-join P xs ys h.1 k)

pub all-mapped : {X Y : Type 0} (P : Y → Type 0) (f : X → Y) (xs : List X) → AllByRecursion (λ x. P (f x)) xs → AllByRecursion P (map f xs)
all-mapped P f [] h = tt
all-mapped P f (x ∷ xs) h = (h.0, all-mapped P f xs h.1)

-- in ascending order by a rank, from `low` on and below `high`
abbrev pub Ascends : {X : Type 0} → (X → ℕ) → ℕ → List X → ℕ → Type 0
Ascends rank low [] high = low ≤ high
Ascends rank low (x ∷ xs) high = (low ≤ rank x) × Ascends rank (rank x + 1) xs high

pub ascends-lower : {X : Type 0} (rank : X → ℕ) (l m : ℕ) (xs : List X) (h : ℕ) → l ≤ m → Ascends rank m xs h → Ascends rank l xs h
ascends-lower rank l m [] h le a = omega arith
ascends-lower rank l m (x ∷ xs) h le a = let k = a.0 in (omega arith, a.1)

pub ascends-append : {X : Type 0} (rank : X → ℕ) (l m h : ℕ) (xs ys : List X) → Ascends rank l xs m → Ascends rank m ys h → Ascends rank l (xs ++ ys) h
ascends-append rank l m h [] ys a b = ascends-lower rank l m ys h a b
ascends-append rank l m h (x ∷ xs) ys a b = (a.0, ascends-append rank (rank x + 1) m h xs ys a.1 b)

ascends-above : {X : Type 0} (rank : X → ℕ) (low : ℕ) (xs : List X) (high : ℕ) → Ascends rank low xs high → (j : ℕ) (d : X) → j < length xs → low ≤ rank (get_or xs j d)
ascends-above rank low [] high a j d l = absurd (omega arith)
ascends-above rank low (x ∷ xs) high a zero d l = a.0
ascends-above rank low (x ∷ xs) high a (suc j) d l =
    let k = a.0 in
    let r = ascends-above rank (rank x + 1) xs high a.1 j d (omega arith) in
    omega arith

pub ascends-pairs : {X : Type 0} (rank : X → ℕ) (low : ℕ) (xs : List X) (high : ℕ) → Ascends rank low xs high → AllPairs (λ a b. rank a < rank b) xs
ascends-pairs rank low [] high a i j d l k = absurd (omega arith)
ascends-pairs rank low (x ∷ xs) high a zero zero d l k = absurd (omega arith)
ascends-pairs rank low (x ∷ xs) high a zero (suc j) d l k = let r = ascends-above rank (rank x + 1) xs high a.1 j d (omega arith) in omega arith
ascends-pairs rank low (x ∷ xs) high a (suc i) zero d l k = absurd (omega arith)
ascends-pairs rank low (x ∷ xs) high a (suc i) (suc j) d l k = ascends-pairs rank (rank x + 1) xs high a.1 i j d (omega arith) (omega arith)

-- an element is somewhere in a list
abbrev pub Has : {X : Type 0} → List X → X → Type 0
Has xs x = (k : ℕ) × (slice_get xs k ≡ Some x)

pub has-later : {X : Type 0} (y : X) (xs : List X) (x : X) → Has xs x → Has (y ∷ xs) x
has-later y xs x h = (suc h.0, h.1)

pub has-left : {X : Type 0} (xs ys : List X) (x : X) → Has xs x → Has (xs ++ ys) x
has-left [] ys x h = absurd (none-some x h.1)
has-left (z ∷ xs) ys x (zero, e) = (zero, e)
has-left (z ∷ xs) ys x (suc k, e) = has-later z (xs ++ ys) x (has-left xs ys x (k, e))

pub has-right : {X : Type 0} (xs ys : List X) (x : X) → Has ys x → Has (xs ++ ys) x
has-right [] ys x h = h
has-right (z ∷ xs) ys x h = has-later z (xs ++ ys) x (has-right xs ys x h)

pub has-after : {X : Type 0} (o : Option X) (xs : List X) (x : X) → Has xs x → Has (cons_option o xs) x
has-after None xs x h = h
has-after (Some y) xs x h = has-later y xs x h

pub has-first : {X : Type 0} (o : Option X) (xs : List X) (x : X) → o ≡ Some x → Has (cons_option o xs) x
has-first None xs x h = absurd (none-some x h)
has-first (Some y) xs x h = (zero, h)

-- the numbers from `low` on up to `high`
abbrev pub IsRun : ℕ → List ℕ → ℕ → Type 0
IsRun low [] high = low ≡ high
IsRun low (x ∷ xs) high = (low ≡ x) × IsRun (low + 1) xs high

pub run-has : {X : Type 0} (g : ℕ → Option X) (low : ℕ) (numbers : List ℕ) (high : ℕ) → IsRun low numbers high → (n : ℕ) (x : X) → low ≤ n → n < high → g n ≡ Some x → Has (filter_map g numbers) x
run-has g low [] high run n x l h e = absurd (omega arith)
run-has g low (m ∷ numbers) high run n x l h e =
    ⊎_elim (λ same. has-first (g m) (filter_map g numbers) x (ap g (sym run.0 ∙ same) ∙ e))
    (λ other. has-after (g m) (filter_map g numbers) x (run-has g (low + 1) numbers high run.1 n x (omega arith) h e))
    (cases_eq low n)

run-under : (low : ℕ) (numbers : List ℕ) (high : ℕ) → IsRun low numbers high → low ≤ high
run-under low [] high run = omega arith
run-under low (x ∷ xs) high run = let k = run-under (low + 1) xs high run.1 in omega arith

-- what a run of numbers gives is in ascending order
run-step : {X : Type 0} (rank : X → ℕ) (base low high : ℕ) (o : Option X) (xs : List X) → ((x : X) → o ≡ Some x → rank x ≡ base + low) → Ascends rank (base + (low + 1)) xs (base + high) → Ascends rank (base + low) (cons_option o xs) (base + high)
run-step rank base low high None xs is a = ascends-lower rank (base + low) (base + (low + 1)) xs (base + high) (omega arith) a
run-step rank base low high (Some x) xs is a =
    let e = is x refl in
    let f : base + (low + 1) ≡ rank x + 1 = omega arith in
    (omega arith, subst (λ m. Ascends rank m xs (base + high)) f a)

pub run-ascends : {X : Type 0} (rank : X → ℕ) (base : ℕ) (g : ℕ → Option X) → ((n : ℕ) (x : X) → g n ≡ Some x → rank x ≡ base + n) → (low : ℕ) (numbers : List ℕ) (high : ℕ) → IsRun low numbers high
    → Ascends rank (base + low) (filter_map g numbers) (base + high)
run-ascends rank base g is low [] high run = omega arith
run-ascends rank base g is low (m ∷ numbers) high run =
    run-step rank base low high (g m) (filter_map g numbers) (λ x e. is m x e ∙ ap (λ n. base + n) (sym run.0)) (run-ascends rank base g is (low + 1) numbers high run.1)

-- and of each what holds of it
all-step : {X : Type 0} (P : X → Type 0) (o : Option X) (xs : List X) → ((x : X) → o ≡ Some x → P x) → AllByRecursion P xs → AllByRecursion P (cons_option o xs)
all-step P None xs is a = a
all-step P (Some x) xs is a = (is x refl, a)

pub all-filtered : {X Y : Type 0} (P : Y → Type 0) (g : X → Option Y) (Q : X → Type 0) → ((x : X) (y : Y) → Q x → g x ≡ Some y → P y) → (xs : List X) → AllByRecursion Q xs → AllByRecursion P (filter_map g xs)
all-filtered P g Q w [] h = tt
all-filtered P g Q w (x ∷ xs) h = all-step P (g x) (filter_map g xs) (λ y e. w x y h.0 e) (all-filtered P g Q w xs h.1)

pub run-bounds : (floor low : ℕ) (numbers : List ℕ) (high : ℕ) → floor ≤ low → IsRun low numbers high → AllByRecursion (λ n. (floor ≤ n) × (n < high)) numbers
run-bounds floor low [] high l run = tt
run-bounds floor low (n ∷ numbers) high l run =
    let e = run.0 in
    let k = run-under (low + 1) numbers high run.1 in
    ((omega arith, omega arith), run-bounds floor (low + 1) numbers high (omega arith) run.1)

-- names of numbered things are in ascending order
pub mapped-ascends : {X Y : Type 0} (rank : Y → ℕ) (f : X → Y) (base n : ℕ) (xs : List X) → EachFrom (λ m x. rank (f x) ≡ base + m) n xs → Ascends rank (base + n) (map f xs) (base + (n + length xs))
mapped-ascends rank f base n [] h = omega arith
mapped-ascends rank f base n (x ∷ xs) h =
    let e = h.0 in
    let f1 : base + (n + 1) ≡ rank (f x) + 1 = omega arith in
    let f2 : base + ((n + 1) + length xs) ≡ base + (n + length (x ∷ xs)) = omega arith in
    (omega arith, subst (λ t. Ascends rank (rank (f x) + 1) (map f xs) t) f2 (subst (λ m. Ascends rank m (map f xs) (base + ((n + 1) + length xs))) f1 (mapped-ascends rank f base (n + 1) xs h.1)))

pub filtered-ascends : {X Y : Type 0} (rank : Y → ℕ) (g : X → Option Y) (base n : ℕ) (xs : List X) → EachFrom (λ m x. (y : Y) → g x ≡ Some y → rank y ≡ base + m) n xs → Ascends rank (base + n) (filter_map g xs) (base + (n + length xs))
filtered-ascends rank g base n [] h = omega arith
filtered-ascends rank g base n (x ∷ xs) h =
    let f2 : base + ((n + 1) + length xs) ≡ base + (n + length (x ∷ xs)) = omega arith in
    run-step rank base n (n + length (x ∷ xs)) (g x) (filter_map g xs) h.0 (subst (λ t. Ascends rank (base + (n + 1)) (filter_map g xs) t) f2 (filtered-ascends rank g base (n + 1) xs h.1))
