-- The lines of a loop's initial values have no faults in its canonical text.
use Rattle.std.proofs.Common.{◌≡◌, ℕ, ◌≤◌, ◌||◌, not, false, eqb, List, ◌∷◌, ◌++◌, length, map, Some, refl, sym, ◌∙◌, ap, subst, arith, ⊎_elim}
use Rattle.std.specs.List.{AllByRecursion, list_any}
use Rattle.std.proofs.lemmas.Bool.{and_left, and_right, false_from_ne_true, ne_eqb, or_from}
use Rattle.std.proofs.lemmas.List.Elements.{recursion_from_All}
use Rattle.machine_data.specs.Opcodes.{same_word}
use Rattle.reader_faults.specs.declared.loops.LoopFaultKind.TheVariants.{Limit, RepeatedName, UnknownName}
use Rattle.loop_data.specs.declared.language.lists.Initial.{Initial}
use Rattle.loop_lines.specs.Forms.{Form}
use Rattle.loop_data.specs.Loops.{LoopData, IsLoop, GivesValue, IsBefore}
use Rattle.loop_reader.specs.Meaning.{declared, is_init, is_long, is_statement, is_value, number_at, when}
use Rattle.loops.specs.Text.{value_name}
use Rattle.loop_reader.proofs.lookups.Declared.{same_word-yes}
use Rattle.loops.proofs.faultless.HeadLines.{no-fault, no-faults}
use Rattle.loops.proofs.faultless.Insides.{IsFine, AreFine, fine-mapped}
use Rattle.loops.proofs.faultless.Lookups.{declared-value}
use Rattle.loops.proofs.Parts.{all-at, all-both, all-left, at-front, none-joined, none-made, none-mapped, pairs-front}
use Rattle.loops.proofs.faultless.ShortNames.{not-long, value-short}
use Rattle.loops.proofs.returned.Written.{array_form, param_form, init_form, body_forms}

-- the lines of arrays and parameters
abbrev pub head_forms : LoopData → List Form
head_forms l = map array_form l.arrays ++ map param_form l.params

-- two values have two names
pub value-apart : (l : LoopData) → IsLoop l → (a b : ℕ) → GivesValue l a → GivesValue l b → (a ≡ b → ⊥) → same_word (value_name l a) (value_name l b) ≡ false
value-apart l is a b given also apart =
    false_from_ne_true (same_word (value_name l a) (value_name l b)) (λ h.
    apart (ap number_at (sym (declared-value l is a given) ∙ ap (declared (body_forms l)) (same_word-yes (value_name l a) (value_name l b) h) ∙ declared-value l is b also)))

-- the name of a value is known
pub value-known : (l : LoopData) → IsLoop l → (k : ℕ) → GivesValue l k → not (is_value (declared (body_forms l) (value_name l k))) ≡ false
value-known l is k gives = ap (λ d. not (is_value d)) (declared-value l is k gives)

abbrev IsAllowed : LoopData → Initial → Type 0
IsAllowed l i = GivesValue l i.statement × (1 ≤ i.number) × (i.number ≤ 16)

-- an earlier initial value is another one
init-other : (l : LoopData) → IsLoop l → (i j : Initial) → GivesValue l i.statement → IsBefore j i → IsAllowed l j → is_init (value_name l i.statement) (Some i.number) (init_form l j) ≡ false
init-other l is i j gives before given =
    ⊎_elim (λ lower. and_left (same_word (value_name l i.statement) (value_name l j.statement)) (eqb i.number j.number) (value-apart l is i.statement j.statement gives given.0 (λ e. omega arith)))
    (λ same. and_right (same_word (value_name l i.statement) (value_name l j.statement)) (eqb i.number j.number) (ne_eqb i.number j.number (λ e. let less = same.1 in omega arith)))
    before

init-fine : (l : LoopData) → IsLoop l → (front : List Initial) (i : Initial) (after : List Initial) → l.inits ≡ front ++ i ∷ after → IsFine (body_forms l) (head_forms l ++ map (init_form l) front) (init_form l i)
init-fine l is front i after e =
    let before : List Form = head_forms l ++ map (init_form l) front in
    let name : List ℕ = value_name l i.statement in
    let all : AllByRecursion (IsAllowed l) l.inits = recursion_from_All (IsAllowed l) l.inits is.inits in
    let given : IsAllowed l i = all-at (IsAllowed l) l.inits (length front) i all (at-front l.inits front i after e) in
    let earlier : AllByRecursion (IsAllowed l) front = all-left (IsAllowed l) front (i ∷ after) (subst (AllByRecursion (IsAllowed l)) e all) in
    let others = all-both (λ j. IsBefore j i) (IsAllowed l) (λ j. is_init name (Some i.number) (init_form l j) ≡ false) (λ j. init-other l is i j given.0) front
    (pairs-front IsBefore l.inits front i after is.inits_ascend e) earlier in
    let some : 1 ≤ i.number = given.1 in
    let limit = when (is_long name || eqb i.number 0 || false) Limit in
    let repeated = when (list_any (is_init name (Some i.number)) before) RepeatedName in
    let unknown = when (not (is_value (declared (body_forms l) name))) UnknownName in
    record {
      goes_on = refl;
      standing = ap not (none-joined is_statement (head_forms l) (map (init_form l) front)
          (none-joined is_statement (map array_form l.arrays) (map param_form l.params) (none-made is_statement array_form (λ a. refl) l.arrays) (none-made is_statement param_form (λ p. refl) l.params))
          (none-made is_statement (init_form l) (λ i. refl) front));
      faultless = no-faults (limit ++ repeated) unknown
          (no-faults limit repeated
          (no-fault (is_long name || eqb i.number 0 || false) Limit
          (or_from (is_long name || eqb i.number 0) false (or_from (is_long name) (eqb i.number 0) (not-long name (value-short l is i.statement given.0)) (ne_eqb i.number 0 (λ z. omega arith))) refl))
          (no-fault (list_any (is_init name (Some i.number)) before) RepeatedName
          (none-joined (is_init name (Some i.number)) (head_forms l) (map (init_form l) front)
          (none-joined (is_init name (Some i.number)) (map array_form l.arrays) (map param_form l.params)
          (none-made (is_init name (Some i.number)) array_form (λ a. refl) l.arrays) (none-made (is_init name (Some i.number)) param_form (λ p. refl) l.params))
          (none-mapped (is_init name (Some i.number)) (init_form l) front others))))
          (no-fault (not (is_value (declared (body_forms l) name))) UnknownName (value-known l is i.statement given.0));
    }

pub inits-fine : (l : LoopData) → IsLoop l → AreFine (body_forms l) (head_forms l) (map (init_form l) l.inits)
inits-fine l is = fine-mapped (body_forms l) (head_forms l) (init_form l) l.inits (init-fine l is)
