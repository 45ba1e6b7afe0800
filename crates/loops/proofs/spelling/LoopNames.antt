-- The names of a loop's arrays, parameters and values, by their numbers.
use Rattle.std.proofs.Common.{◌≡◌, ℕ, zero, suc, ◌<◌, true, List, [], ◌∷◌, ◌++◌, length, map, Option, Some, None, is_some, unwrap_or, refl, sym, ap, ◌∙◌, subst, arith}
use Rattle.std.specs.List.{AllByRecursion, filter_map, cons_option, slice_get}
use Rattle.std.specs.Option.{option_map, option_and_then}
use Rattle.std.proofs.lemmas.Bool.{false≢true}
use Rattle.std.proofs.lemmas.List.Elements.{recursion_from_All}
use Rattle.std.proofs.lemmas.Option.{none-some, same_Some}
use Rattle.loop_data.specs.declared.language.lists.Array.{Array}
use Rattle.loop_data.specs.declared.language.lists.Param.{Param}
use Rattle.loop_data.specs.declared.language.statement.Statement.{Statement}
use Rattle.loop_data.specs.Loops.{LoopData, IsLoop, IsName, GivesValue, declared_names, value_names}
use Rattle.loops.specs.Text.{array_name, param_name, value_name}
use Rattle.loops.proofs.Parts.{all-unmapped}

-- elements by their numbers

pub some-value : {X : Type 0} (o : Option X) → is_some o ≡ true → (x : X) × (o ≡ Some x)
some-value None h = absurd (false≢true h)
some-value (Some x) h = (x, refl)

pub all-get : {X : Type 0} (P : X → Type 0) (xs : List X) → AllByRecursion P xs → (k : ℕ) (x : X) → slice_get xs k ≡ Some x → P x
all-get P [] h k x e = absurd (none-some x e)
all-get P (y ∷ ys) h zero x e = subst P (same_Some y x e) h.0
all-get P (y ∷ ys) h (suc k) x e = all-get P ys h.1 k x e

pub get-some : {X : Type 0} (xs : List X) (k : ℕ) → k < length xs → (x : X) × (slice_get xs k ≡ Some x)
get-some [] k l = absurd (omega arith)
get-some (x ∷ xs) zero l = (x, refl)
get-some (x ∷ xs) (suc k) l = get-some xs k (omega arith)

pub get-below : {X : Type 0} (xs : List X) (k : ℕ) (x : X) → slice_get xs k ≡ Some x → k < length xs
get-below [] k x e = absurd (none-some x e)
get-below (y ∷ ys) zero x e = omega arith
get-below (y ∷ ys) (suc k) x e = let r = get-below ys k x e in omega arith

-- what holds of the element of each number holds of all
pub all-numbered : {X : Type 0} (P : X → Type 0) (xs : List X) → ((k : ℕ) (x : X) → slice_get xs k ≡ Some x → P x) → AllByRecursion P xs
all-numbered P [] h = tt
all-numbered P (x ∷ xs) h = (h 0 x refl, all-numbered P xs (λ k y e. h (suc k) y e))

pub all-parts : {X : Type 0} (P : X → Type 0) (xs ys : List X) → AllByRecursion P (xs ++ ys) → AllByRecursion P xs × AllByRecursion P ys
all-parts P [] ys h = (tt, h)
all-parts P (x ∷ xs) ys h =
    let r = all-parts P xs ys h.1 in
    ((h.0, r.0), r.1)

-- what two facts of each element give
first-given : {Y : Type 0} (P : Y → Type 0) (o : Option Y) (ys : List Y) → AllByRecursion P (cons_option o ys) → ((y : Y) → o ≡ Some y → P y) × AllByRecursion P ys
first-given P None ys h = ((λ y e. absurd (none-some y e)), h)
first-given P (Some x) ys h = ((λ y e. subst P (same_Some x y e) h.0), h.1)

-- what holds of all that elements give holds of what one of them gives
pub all-given : {X Y : Type 0} (P : Y → Type 0) (f : X → Option Y) (xs : List X) → AllByRecursion P (filter_map f xs) → (k : ℕ) (x : X) (y : Y) → slice_get xs k ≡ Some x → f x ≡ Some y → P y
all-given P f [] h k x y e g = absurd (none-some x e)
all-given P f (z ∷ zs) h zero x y e g = (first-given P (f z) (filter_map f zs) h).0 y (ap f (same_Some z x e) ∙ g)
all-given P f (z ∷ zs) h (suc k) x y e g = all-given P f zs (first-given P (f z) (filter_map f zs) h).1 k x y e g

-- names

abbrev AreNamed : LoopData → Type 0
AreNamed loop =
    AllByRecursion (λ (a : Array). IsName a.name) loop.arrays × AllByRecursion (λ (p : Param). IsName p.name) loop.params
    × AllByRecursion IsName (value_names loop)

are-named : (loop : LoopData) → IsLoop loop → AreNamed loop
are-named loop is =
    let arrays = map (λ (a : Array). a.name) loop.arrays in
    let params = map (λ (p : Param). p.name) loop.params in
    let all = all-parts IsName (arrays ++ params) (value_names loop) (recursion_from_All IsName (declared_names loop) is.names) in
    let both = all-parts IsName arrays params all.0 in
    (all-unmapped IsName (λ (a : Array). a.name) loop.arrays both.0, all-unmapped IsName (λ (p : Param). p.name) loop.params both.1, all.1)

pub arrays-named : (loop : LoopData) → IsLoop loop → AllByRecursion (λ (a : Array). IsName a.name) loop.arrays
arrays-named loop is = (are-named loop is).0

pub params-named : (loop : LoopData) → IsLoop loop → AllByRecursion (λ (p : Param). IsName p.name) loop.params
params-named loop is = (are-named loop is).1

-- the name that a statement gives
pub statement-named : (loop : LoopData) → IsLoop loop → (k : ℕ) (s : Statement) (name : List ℕ) → slice_get loop.statements k ≡ Some s → s.name ≡ Some name → IsName name
statement-named loop is k s name e f = all-given IsName (λ (s : Statement). s.name) loop.statements (are-named loop is).2 k s name e f

pub array_name-named : (loop : LoopData) → IsLoop loop → (k : ℕ) → k < length loop.arrays → IsName (array_name loop k)
array_name-named loop is k l =
    let a = get-some loop.arrays k l in
    let same : array_name loop k ≡ a.0.name = ap (λ o. unwrap_or (option_map (λ (a : Array). a.name) o) []) a.1 in
    subst IsName (sym same) (all-get (λ (a : Array). IsName a.name) loop.arrays (arrays-named loop is) k a.0 a.1)

pub param_name-named : (loop : LoopData) → IsLoop loop → (k : ℕ) → k < length loop.params → IsName (param_name loop k)
param_name-named loop is k l =
    let p = get-some loop.params k l in
    let same : param_name loop k ≡ p.0.name = ap (λ o. unwrap_or (option_map (λ (p : Param). p.name) o) []) p.1 in
    subst IsName (sym same) (all-get (λ (p : Param). IsName p.name) loop.params (params-named loop is) k p.0 p.1)

pub value_name-is : (loop : LoopData) (k : ℕ) (s : Statement) (name : List ℕ) → slice_get loop.statements k ≡ Some s → s.name ≡ Some name → value_name loop k ≡ name
value_name-is loop k s name e f = ap (λ o. unwrap_or (option_and_then (λ (s : Statement). s.name) o) []) e ∙ ap (λ o. unwrap_or o []) f

pub value_name-named : (loop : LoopData) → IsLoop loop → (k : ℕ) → GivesValue loop k → IsName (value_name loop k)
value_name-named loop is k (s, e, named) =
    let name = some-value s.name named in
    subst IsName (sym (value_name-is loop k s name.0 e name.1)) (statement-named loop is k s name.0 e name.1)
