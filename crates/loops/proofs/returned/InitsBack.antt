-- The initial values of a loop are read back from the lines of its canonical text.
use Rattle.std.proofs.Common.{◌≡◌, ◌⊎◌, inl, inr, ⊎_elim, ℕ, zero, suc, ℤ, ◌+◌, ◌<◌, ◌≤◌, ◌&&◌, ◌==◌, List, [], ◌∷◌, ◌++◌, map, Option, Some, None, slice_index_or, refl, sym, ap, ◌∙◌, subst, arith, zero-add}
use Rattle.std.specs.List.{AllPairs, AllByRecursion, slice_get}
use Rattle.std.specs.Option.{option_or, option_map}
use Rattle.std.proofs.lemmas.Bool.{and_from, eq-eqb, cond-true, cases_order}
use Rattle.std.proofs.lemmas.Option.{none-some, same_Some, cond_some, slice_get-map, slice_get_within, get_or_from_slice_get}
use Rattle.machine_data.specs.Opcodes.{same_word}
use Rattle.loop_data.specs.declared.language.lists.Initial.{Initial}
use Rattle.loop_data.specs.declared.language.statement.Statement.{Statement}
use Rattle.loop_lines.specs.Forms.{Form, StatementForm}
use Rattle.loop_data.specs.Loops.{LoopData, IsLoop, GivesValue, IsBefore}
use Rattle.loop_reader.specs.Meaning.{AValue, declared, number_at, value_in, init_value, init_numbers, inits_at, inits_from}
use Rattle.loops.specs.Text.{value_name}
use Rattle.loop_reader.proofs.lookups.Declared.{option_or-none, option_or-assoc, same_word-here}
use Rattle.loop_reader.proofs.faults.Giving.{init-test}
use Rattle.loop_reader.proofs.making.Initials.{initial, initial_in, numbers-run, inits-has, inits-all, inits-ascend}
use Rattle.loops.proofs.faultless.Lookups.{declared-value, value-found, gives-named}
use Rattle.loop_reader.proofs.making.Numbered.{EachFrom, Has, has-later, run-has, run-bounds, all-join, all-filtered}
use Rattle.loops.proofs.returned.Written.{array_form, param_form, init_form, source_form, statement_form, out_form, body_forms}

-- lists in strict order

-- each element stands before all later ones
abbrev Ordered : {X : Type 0} → (X → X → Type 0) → List X → Type 0
Ordered R [] = Unit {0}
Ordered {X} R (x ∷ xs) = ((y : X) → Has xs y → R x y) × Ordered R xs

ordered-head : {X : Type 0} (R : X → X → Type 0) (x : X) (xs : List X) → AllPairs R (x ∷ xs) → (y : X) → Has xs y → R x y
ordered-head R x xs h y has =
    let k = has.0 in
    let within = slice_get_within xs k y has.1 in
    subst (R x) (get_or_from_slice_get xs k y x has.1) (h zero (suc k) x (omega arith) (omega arith))

ordered-from : {X : Type 0} (R : X → X → Type 0) (xs : List X) → AllPairs R xs → Ordered R xs
ordered-from R [] h = tt
ordered-from R (x ∷ xs) h = (ordered-head R x xs h, ordered-from R xs (λ i j d lt within. h (suc i) (suc j) d (omega arith) (omega arith)))

has-cases : {X : Type 0} (y : X) (ys : List X) (x : X) → Has (y ∷ ys) x → (y ≡ x) ⊎ Has ys x
has-cases y ys x (zero, e) = inl (same_Some y x e)
has-cases y ys x (suc k, e) = inr (k, e)

has-here : {X : Type 0} (x : X) (xs : List X) → Has (x ∷ xs) x
has-here x xs = (zero, refl)

-- two such lists with the same elements are the same
same-ordered : {X : Type 0} (R : X → X → Type 0) → ((x : X) → R x x → ⊥) → ((x y : X) → R x y → R y x → ⊥) → (xs ys : List X) → Ordered R xs → Ordered R ys
    → ((x : X) → Has xs x → Has ys x) → ((y : X) → Has ys y → Has xs y) → xs ≡ ys
same-ordered R apart one_way [] [] h k f g = refl
same-ordered R apart one_way [] (y ∷ ys) h k f g = absurd (none-some y (g y (has-here y ys)).1)
same-ordered R apart one_way (x ∷ xs) [] h k f g = absurd (none-some x (f x (has-here x xs)).1)
same-ordered R apart one_way (x ∷ xs) (y ∷ ys) h k f g =
    let e : x ≡ y = ⊎_elim (λ same. sym same) (λ later. ⊎_elim (λ same. same) (λ other. absurd (one_way x y (h.0 y other) (k.0 x later))) (has-cases x xs y (g y (has-here y ys)))) (has-cases y ys x (f x (has-here x xs))) in
    ap (λ z. z ∷ xs) e
    ∙ ap (λ zs. y ∷ zs)
    (same-ordered R apart one_way xs ys h.1 k.1
    (λ z has. ⊎_elim (λ same. absurd (apart x (subst (R x) (sym same ∙ sym e) (h.0 z has)))) (λ there. there) (has-cases y ys z (f z (has-later x xs z has))))
    (λ z has. ⊎_elim (λ same. absurd (apart y (subst (R y) (sym same ∙ e) (k.0 z has)))) (λ there. there) (has-cases x xs z (g z (has-later y ys z has)))))

before-apart : (a b : Initial) → IsBefore a b → a.statement ≡ b.statement → a.number ≡ b.number → ⊥
before-apart a b (inl h) s n = omega arith
before-apart a b (inr h) s n = let m = h.1 in omega arith

before-one_way : (a b : Initial) → IsBefore a b → IsBefore b a → ⊥
before-one_way a b (inl h) (inl k) = omega arith
before-one_way a b (inl h) (inr k) = let s = k.0 in omega arith
before-one_way a b (inr h) (inl k) = let s = h.0 in omega arith
before-one_way a b (inr h) (inr k) = let m = h.1 in let n = k.1 in omega arith

-- the initial values of a loop

initial-lawful : (l : LoopData) → IsLoop l → (i : Initial) → Has l.inits i → GivesValue l i.statement × (1 ≤ i.number) × (i.number ≤ 16)
initial-lawful l is i has =
    subst (λ (i : Initial). GivesValue l i.statement × (1 ≤ i.number) × (i.number ≤ 16)) (get_or_from_slice_get l.inits has.0 i i has.1)
    (is.inits has.0 i (slice_get_within l.inits has.0 i has.1))

initial-before : (l : LoopData) → IsLoop l → (i j : Initial) (hi : Has l.inits i) (hj : Has l.inits j) → hi.0 < hj.0 → IsBefore i j
initial-before l is i j hi hj less =
    subst (λ a. IsBefore a j) (get_or_from_slice_get l.inits hi.0 i i hi.1)
    (subst (λ b. IsBefore (slice_index_or l.inits hi.0 i) b) (get_or_from_slice_get l.inits hj.0 j i hj.1) (is.inits_ascend hi.0 hj.0 i less (slice_get_within l.inits hj.0 j hj.1)))

-- there is one for a statement and a number
initial-one : (l : LoopData) → IsLoop l → (i j : Initial) → Has l.inits i → Has l.inits j → i.statement ≡ j.statement → i.number ≡ j.number → i ≡ j
initial-one l is i j hi hj s n =
    ⊎_elim (λ same. same_Some i j (sym hi.1 ∙ ap (slice_get l.inits) same ∙ hj.1))
    (λ other. ⊎_elim (λ less. absurd (before-apart i j (initial-before l is i j hi hj less) s n)) (λ more. absurd (before-apart j i (initial-before l is j i hj hi more) (sym s) (sym n))) other)
    (cases_order hi.0 hj.0)

-- a name is that of one statement
statement-one : (l : LoopData) → IsLoop l → (name : List ℕ) (k n : ℕ) → declared (body_forms l) name ≡ Some (AValue k) → GivesValue l n → name ≡ value_name l n → k ≡ n
statement-one l is name k n there gives e = ap number_at (sym there ∙ ap (declared (body_forms l)) e ∙ declared-value l is n gives)

-- the first initial value of a name and a number in the text

init_value-append : (name : List ℕ) (n : ℕ) (xs ys : List Form) → init_value name n (xs ++ ys) ≡ option_or (init_value name n xs) (init_value name n ys)
init_value-append name n [] ys = refl
init_value-append name n (x ∷ xs) ys =
    ap (option_or (value_in name n x)) (init_value-append name n xs ys) ∙ option_or-assoc (value_in name n x) (init_value name n xs) (init_value name n ys)

init_value-none : {X : Type 0} (name : List ℕ) (n : ℕ) (f : X → Form) → ((x : X) → value_in name n (f x) ≡ None) → (xs : List X) → init_value name n (map f xs) ≡ None
init_value-none name n f h [] = refl
init_value-none name n f h (x ∷ xs) = ap (λ o. option_or o (init_value name n (map f xs))) (h x) ∙ init_value-none name n f h xs

init_value-body : (l : LoopData) (name : List ℕ) (n : ℕ) → init_value name n (body_forms l) ≡ init_value name n (map (init_form l) l.inits)
init_value-body l name n =
    let arrays = map array_form l.arrays in
    let params = map param_form l.params in
    let inits = map (init_form l) l.inits in
    let statements = map (statement_form l) l.statements in
    let outs = map (out_form l) l.outs in
    let value : List Form → Option ℤ = init_value name n in
    let all = ((arrays ++ params) ++ inits) ++ statements in
    init_value-append name n all outs ∙ ap (option_or (value all)) (init_value-none name n (out_form l) (λ x. refl) l.outs) ∙ option_or-none (value all)
    ∙ init_value-append name n ((arrays ++ params) ++ inits) statements ∙ ap (option_or (value ((arrays ++ params) ++ inits))) (init_value-none name n (statement_form l) (λ x. refl) l.statements)
    ∙ option_or-none (value ((arrays ++ params) ++ inits))
    ∙ init_value-append name n (arrays ++ params) inits
    ∙ ap (λ o. option_or o (value inits))
    (init_value-append name n arrays params ∙ ap (λ o. option_or o (value params)) (init_value-none name n array_form (λ x. refl) l.arrays) ∙ init_value-none name n param_form (λ x. refl) l.params)

value-parts : (l : LoopData) (name : List ℕ) (n : ℕ) (i : Initial) (z : ℤ) → value_in name n (init_form l i) ≡ Some z → (name ≡ value_name l i.statement) × (n ≡ i.number) × (z ≡ i.value)
value-parts l name n i z h =
    let found = cond_some (same_word name (value_name l i.statement) && (n == i.number)) i.value z h in
    let same = init-test name (value_name l i.statement) (Some n) (Some i.number) found.0 in
    (same.0, same_Some n i.number same.1, sym found.1)

from-either : (o rest : Option ℤ) (z : ℤ) → option_or o rest ≡ Some z → (o ≡ Some z) ⊎ (rest ≡ Some z)
from-either None rest z h = inr h
from-either (Some w) rest z h = inl h

-- it is one of the loop's
init_value-from : (l : LoopData) (name : List ℕ) (n : ℕ) (inits : List Initial) (z : ℤ) → init_value name n (map (init_form l) inits) ≡ Some z
    → (i : Initial) × Has inits i × (name ≡ value_name l i.statement) × (n ≡ i.number) × (z ≡ i.value)
init_value-from l name n [] z h = absurd (none-some z h)
init_value-from l name n (i ∷ inits) z h =
    ⊎_elim (λ e. let parts = value-parts l name n i z e in (i, has-here i inits, parts.0, parts.1, parts.2))
    (λ e. let rest = init_value-from l name n inits z e in (rest.0, has-later i inits rest.0 rest.1, rest.2, rest.3, rest.4))
    (from-either (value_in name n (init_form l i)) (init_value name n (map (init_form l) inits)) z h)

some-after : (o rest : Option ℤ) (z : ℤ) → rest ≡ Some z → (w : ℤ) × (option_or o rest ≡ Some w)
some-after None rest z h = (z, h)
some-after (Some w) rest z h = (w, refl)

value-own : (l : LoopData) (i : Initial) → value_in (value_name l i.statement) i.number (init_form l i) ≡ Some i.value
value-own l i =
    let name = value_name l i.statement in
    cond-true (same_word name name && (i.number == i.number)) (Some i.value) None (and_from (same_word name name) (i.number == i.number) (same_word-here name) (eq-eqb i.number i.number refl))

init_value-some : (l : LoopData) (inits : List Initial) (k : ℕ) (i : Initial) → slice_get inits k ≡ Some i → (z : ℤ) × (init_value (value_name l i.statement) i.number (map (init_form l) inits) ≡ Some z)
init_value-some l [] k i e = absurd (none-some i e)
init_value-some l (j ∷ inits) zero i e =
    let value : Initial → Option ℤ = λ j. init_value (value_name l i.statement) i.number (map (init_form l) (j ∷ inits)) in
    (i.value, ap value (same_Some j i e) ∙ ap (λ o. option_or o (init_value (value_name l i.statement) i.number (map (init_form l) inits))) (value-own l i))
init_value-some l (j ∷ inits) (suc k) i e =
    let rest = init_value-some l inits k i e in
    some-after (value_in (value_name l i.statement) i.number (init_form l j)) (init_value (value_name l i.statement) i.number (map (init_form l) inits)) rest.0 rest.1

-- and each of the loop's is found by its name and number
init_value-there : (l : LoopData) → IsLoop l → (i : Initial) → Has l.inits i → init_value (value_name l i.statement) i.number (body_forms l) ≡ Some i.value
init_value-there l is i has =
    let name = value_name l i.statement in
    let some = init_value-some l l.inits has.0 i has.1 in
    let from = init_value-from l name i.number l.inits some.0 some.1 in
    let j = from.0 in
    let statement = statement-one l is name i.statement j.statement (declared-value l is i.statement (initial-lawful l is i has).0) (initial-lawful l is j from.1).0 from.2 in
    let same = initial-one l is i j has from.1 statement from.3 in
    init_value-body l name i.number ∙ some.1 ∙ ap Some (from.4 ∙ ap (λ (i : Initial). i.value) (sym same))

-- each initial value that the text gives is one of the loop's

mapped-some : {X Y : Type 0} (f : X → Y) (o : Option X) (y : Y) → option_map f o ≡ Some y → (x : X) × (o ≡ Some x) × (f x ≡ y)
mapped-some f None y h = absurd (none-some y h)
mapped-some f (Some x) y h = (x, refl, same_Some (f x) y h)

row-value : (l : LoopData) → IsLoop l → (n : ℕ) (name : List ℕ) (m : ℕ) (i : Initial) → declared (body_forms l) name ≡ Some (AValue n) → initial_in (body_forms l) n name m ≡ Some i → Has l.inits i
row-value l is n name m i there h =
    let given = mapped-some (initial n m) (init_value name m (body_forms l)) i h in
    let z = given.0 in
    let from = init_value-from l name m l.inits z (sym (init_value-body l name m) ∙ given.1) in
    let j = from.0 in
    let statement = statement-one l is name n j.statement there (initial-lawful l is j from.1).0 from.2 in
    let same : initial n m z ≡ j = ap (λ s. initial s m z) statement ∙ ap (λ k. initial j.statement k z) from.3 ∙ ap (λ v. initial j.statement j.number v) from.4 in
    subst (Has l.inits) (sym same ∙ given.2) from.1

row-has : (l : LoopData) → IsLoop l → (n : ℕ) (o : Option (List ℕ)) → ((name : List ℕ) → o ≡ Some name → declared (body_forms l) name ≡ Some (AValue n)) → AllByRecursion (Has l.inits) (inits_at (body_forms l) n o)
row-has l is n None there = tt
row-has l is n (Some name) there =
    all-filtered (Has l.inits) (initial_in (body_forms l) n name) (λ m. (1 ≤ m) × (m < 17)) (λ m i q e. row-value l is n name m i (there name refl) e) init_numbers (run-bounds 1 1 init_numbers 17 (omega arith) numbers-run)

-- what holds of each element by its number
each-from : {X : Type 0} (P : ℕ → X → Type 0) (n : ℕ) (xs : List X) → ((k : ℕ) (x : X) → slice_get xs k ≡ Some x → P (n + k) x) → EachFrom P n xs
each-from P n [] h = tt
each-from P n (x ∷ xs) h =
    let here : n + zero ≡ n = omega arith in (
      subst (λ m. P m x) here (h zero x refl),
      each-from P (n + 1) xs (λ k y e.
          let later : n + suc k ≡ (n + 1) + k = omega arith in
          subst (λ m. P m y) later (h (suc k) y e)),
    )

rows-have : (l : LoopData) → IsLoop l → (n : ℕ) (statements : List Statement) → EachFrom (λ m s. slice_get l.statements m ≡ Some s) n statements
    → AllByRecursion (Has l.inits) (inits_from (body_forms l) n (map (source_form l) statements))
rows-have l is n [] each = tt
rows-have l is n (s ∷ statements) each =
    all-join (Has l.inits) (inits_at (body_forms l) n s.name) (inits_from (body_forms l) (n + 1) (map (source_form l) statements))
    (row-has l is n s.name (λ name e. value-found l is n s name each.0 e)) (rows-have l is (n + 1) statements each.1)

all-has : {X : Type 0} (P : X → Type 0) (xs : List X) → AllByRecursion P xs → (x : X) → Has xs x → P x
all-has P [] h x has = absurd (none-some x has.1)
all-has P (y ∷ ys) h x (zero, e) = subst P (same_Some y x e) h.0
all-has P (y ∷ ys) h x (suc k, e) = all-has P ys h.1 x (k, e)

-- each of the loop's is one that the text gives
initial-given : (l : LoopData) → IsLoop l → (i : Initial) → Has l.inits i → Has (inits_from (body_forms l) 0 (map (source_form l) l.statements)) i
initial-given l is i has =
    let lawful = initial-lawful l is i has in
    let gives = lawful.0 in
    let low = lawful.1 in
    let high = lawful.2 in
    let n = i.statement in
    let name = value_name l n in
    let here : Has (inits_at (body_forms l) n (Some name)) i = run-has (initial_in (body_forms l) n name) 1 init_numbers 17 numbers-run i.number i low (omega arith) (ap (option_map (initial n i.number)) (init_value-there l is i has)) in
    let source = slice_get-map (source_form l) l.statements n ∙ ap (option_map (source_form l)) gives.1 in
    inits-has (body_forms l) 0 (map (source_form l) l.statements) n (source_form l gives.0) name i source (gives-named l n gives)
    (subst (λ m. Has (inits_at (body_forms l) m (Some name)) i) (sym (zero-add n)) here)

-- the initial values are read back
pub inits-back : (l : LoopData) → IsLoop l → inits_from (body_forms l) 0 (map (source_form l) l.statements) ≡ l.inits
inits-back l is =
    let sources = map (source_form l) l.statements in
    let given = inits_from (body_forms l) 0 sources in
    let any : ℕ → Type 0 = λ n. Unit {0} in
    let ascend = inits-ascend any (body_forms l) sources (inits-all any (body_forms l) 0 sources (each-from (λ n (s : StatementForm). (name : List ℕ) → s.name ≡ Some name → any n) 0 sources (λ k s e name f. tt))) in
    let own = rows-have l is 0 l.statements (each-from (λ n s. slice_get l.statements n ≡ Some s) 0 l.statements (λ k s e. subst (λ m. slice_get l.statements m ≡ Some s) (sym (zero-add k)) e)) in
    same-ordered IsBefore (λ a h. before-apart a a h refl refl) before-one_way given l.inits (ordered-from IsBefore given ascend) (ordered-from IsBefore l.inits is.inits_ascend)
    (λ i has. all-has (Has l.inits) given own i has) (λ i has. initial-given l is i has)
