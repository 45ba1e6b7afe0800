-- The lines of a loop's statements have no faults in its canonical text.
use Rattle.std.proofs.Common.{◌≡◌, ℕ, zero, suc, ◌<◌, ◌≤◌, ◌||◌, not, Bool, true, false, List, ◌∷◌, ◌++◌, length, map, Option, Some, None, is_some, nat_le, option_map, refl, ◌∙◌, ap, arith}
use Rattle.std.specs.List.{list_any, slice_get}
use Rattle.std.proofs.lemmas.Bool.{and_from, and_left, lt-leb, ne_eqb, or_from}
use Rattle.std.proofs.lemmas.List.Elements.{recursion_from_All}
use Rattle.reader_faults.specs.declared.loops.LoopFaultKind.TheVariants.{Limit, RepeatedName, UnknownName, UseBeforeDefinition, MissingInit}
use Rattle.loop_data.specs.declared.language.lists.Array.{Array}
use Rattle.loop_data.specs.declared.language.lists.Initial.{Initial}
use Rattle.loop_data.specs.declared.language.lists.Param.{Param}
use Rattle.loop_data.specs.declared.language.statement.Operand.{Operand}
use Rattle.loop_data.specs.declared.language.statement.Operand.TheVariants.{Constant, Parameter, Value}
use Rattle.loop_data.specs.declared.language.statement.Place.{Place}
use Rattle.loop_data.specs.declared.language.statement.Statement.{Statement}
use Rattle.loop_lines.specs.Forms.{Form, Subscript, Use}
use Rattle.loop_data.specs.Loops.{LoopData, IsLoop, IsPlace, IsStatement, MayRead, HasInitial}
use Rattle.loop_reader.specs.Meaning.{any_name, declared, has_init, has_inits, is_array_name, is_early, is_long, is_out, is_readable, is_statement, is_uncovered, is_unknown, is_unknown_place, is_value_from, is_wide, is_wide_place, how_many, same_number, when}
use Rattle.loops.specs.Text.{array_name, param_name, value_name}
use Rattle.loops.proofs.faultless.HeadLines.{no-fault, no-faults, not-declared}
use Rattle.loops.proofs.faultless.InitLines.{head_forms, value-known}
use Rattle.loops.proofs.faultless.Insides.{IsFine, AreFine, fine-mapped}
use Rattle.loops.proofs.faultless.Lookups.{declared-array, declared-new, declared-param, declared-value, has_init-there, how_many-all, how_many-append, how_many-none, statement-cut}
use Rattle.loops.proofs.Parts.{all-weaker, at-front, front-within, none-joined, none-made, none-mapped}
use Rattle.loops.proofs.faultless.ShortNames.{array-short, not-long, param-short, statement-named, value-short}
use Rattle.loops.proofs.returned.Written.{array_form, param_form, init_form, place_form, use_form, statement_form, body_forms}

-- what a statement reads

inits-there : (l : LoopData) (s distance : ℕ) → ((number : ℕ) → 1 ≤ number → number ≤ distance → HasInitial l s number) → has_inits (body_forms l) (value_name l s) distance ≡ true
inits-there l s zero has = refl
inits-there l s (suc d) has =
    and_from (has_init (body_forms l) (value_name l s) (suc d)) (has_inits (body_forms l) (value_name l s) d) (has_init-there l s (suc d) (has (suc d) (omega arith) (omega arith)))
    (inits-there l s d (λ number low high. has number low (omega arith)))

not-wide : (l : LoopData) → IsLoop l → (n : ℕ) (o : Operand) → MayRead l n o → is_wide (use_form l o) ≡ false
not-wide l is n (Constant value) may = refl
not-wide l is n (Parameter p) may = not-long (param_name l p) (param-short l is p may)
not-wide l is n (Value s zero) may = not-long (value_name l s) (value-short l is s may.0)
not-wide l is n (Value s (suc d)) may = or_from (is_long (value_name l s)) false (not-long (value_name l s) (value-short l is s may.0)) refl

not-unknown : (l : LoopData) → IsLoop l → (n : ℕ) (o : Operand) → MayRead l n o → is_unknown (body_forms l) (use_form l o) ≡ false
not-unknown l is n (Constant value) may = refl
not-unknown l is n (Parameter p) may = ap (λ d. not (is_readable d)) (declared-param l is p may)
not-unknown l is n (Value s zero) may = ap (λ d. not (is_readable d)) (declared-value l is s may.0)
not-unknown l is n (Value s (suc d)) may = value-known l is s may.0

not-early : (l : LoopData) → IsLoop l → (n : ℕ) (o : Operand) → MayRead l n o → is_early (body_forms l) n (use_form l o) ≡ false
not-early l is n (Constant value) may = refl
not-early l is n (Parameter p) may = ap (is_value_from n) (declared-param l is p may)
not-early l is n (Value s zero) may = ap (is_value_from n) (declared-value l is s may.0) ∙ lt-leb n s (may.2 refl)
not-early l is n (Value s (suc d)) may =
    and_left (same_number (Some (suc d)) (Some 0)) (is_value_from n (declared (body_forms l) (value_name l s))) (ne_eqb (suc d) 0 (λ e. omega arith))

not-uncovered : (l : LoopData) → IsLoop l → (n : ℕ) (o : Operand) → MayRead l n o → is_uncovered (body_forms l) (use_form l o) ≡ false
not-uncovered l is n (Constant value) may = refl
not-uncovered l is n (Parameter p) may = refl
not-uncovered l is n (Value s zero) may = refl
not-uncovered l is n (Value s (suc d)) may = ap not (inits-there l s (suc d) may.3)

-- no use of a statement passes a test that none of what it may read does
no-use : (l : LoopData) (n : ℕ) (s : Statement) → IsStatement l n s → (p : Use → Bool) → ((o : Operand) → MayRead l n o → p (use_form l o) ≡ false) → list_any p (map (use_form l) s.operands) ≡ false
no-use l n s is p each = none-mapped p (use_form l) s.operands (all-weaker (MayRead l n) (λ o. p (use_form l o) ≡ false) each s.operands (recursion_from_All (MayRead l n) s.operands is.operands))

-- its place

narrow-place : (l : LoopData) → IsLoop l → (o : Option Place) → ((p : Place) → o ≡ Some p → IsPlace l p) → is_wide_place (option_map (place_form l) o) ≡ false
narrow-place l is None h = refl
narrow-place l is (Some p) h = or_from (is_long (array_name l p.array)) false (not-long (array_name l p.array) (array-short l is p.array (h p refl).array)) refl

known-place : (l : LoopData) → IsLoop l → (o : Option Place) → ((p : Place) → o ≡ Some p → IsPlace l p) → is_unknown_place (body_forms l) (option_map (place_form l) o) ≡ false
known-place l is None h = refl
known-place l is (Some p) h = ap (λ d. not (is_array_name d)) (declared-array l is p.array (h p refl).array)

-- its name

no-name : (test : List ℕ → Bool) (o : Option (List ℕ)) → ((name : List ℕ) → o ≡ Some name → test name ≡ false) → any_name test o ≡ false
no-name test None h = refl
no-name test (Some name) h = h name refl

-- lines before the first statement
abbrev pub lead_forms : LoopData → List Form
lead_forms l = head_forms l ++ map (init_form l) l.inits

pub lead-none : (l : LoopData) (p : Form → Bool) → ((a : Array) → p (array_form a) ≡ false) → ((q : Param) → p (param_form q) ≡ false) → ((i : Initial) → p (init_form l i) ≡ false) → list_any p (lead_forms l) ≡ false
lead-none l p a q i =
    none-joined p (head_forms l) (map (init_form l) l.inits) (none-joined p (map array_form l.arrays) (map param_form l.params) (none-made p array_form a l.arrays) (none-made p param_form q l.params))
    (none-made p (init_form l) i l.inits)

-- the number of a statement's line among those of statements
line-number : (l : LoopData) (front : List Statement) → how_many is_statement (lead_forms l ++ map (statement_form l) front) ≡ length front
line-number l front =
    let arrays : List Form = map array_form l.arrays in
    let params : List Form = map param_form l.params in
    let inits : List Form = map (init_form l) l.inits in
    let a : how_many is_statement arrays ≡ 0 = how_many-none is_statement array_form l.arrays (λ a. refl) in
    let p : how_many is_statement params ≡ 0 = how_many-none is_statement param_form l.params (λ p. refl) in
    let i : how_many is_statement inits ≡ 0 = how_many-none is_statement (init_form l) l.inits (λ i. refl) in
    let s : how_many is_statement (map (statement_form l) front) ≡ length front = how_many-all is_statement (statement_form l) front (λ s. refl) in
    omega (arith, how_many-append is_statement (lead_forms l) (map (statement_form l) front), how_many-append is_statement (arrays ++ params) inits, how_many-append is_statement arrays params)

statement-fine : (l : LoopData) → IsLoop l → (front : List Statement) (s : Statement) (after : List Statement) → l.statements ≡ front ++ s ∷ after
    → IsFine (body_forms l) (lead_forms l ++ map (statement_form l) front) (statement_form l s)
statement-fine l is front s after e =
    let block : List Form = body_forms l in
    let before : List Form = lead_forms l ++ map (statement_form l) front in
    let uses : List Use = map (use_form l) s.operands in
    let place : Option Subscript = option_map (place_form l) s.place in
    let count : how_many is_statement before ≡ length front = line-number l front in
    let number : ℕ = how_many is_statement before in
    let at : slice_get l.statements number ≡ Some s = ap (slice_get l.statements) count ∙ at-front l.statements front s after e in
    let lawful : IsStatement l number s = is.each number s at in
    let few : number < 128 = omega (arith, front-within l.statements front s after e, is.statements_few) in
    let cut = statement-cut l front s after e in
    let new = λ (name : List ℕ) (named : s.name ≡ Some name). declared-new l is before cut.0 (statement_form l s) name cut.1 named in
    let limit = when (any_name is_long s.name || is_wide_place place || list_any is_wide uses || nat_le 128 number) Limit in
    let repeated = when (any_name (λ name. is_some (declared before name)) s.name) RepeatedName in
    let unknown = when (is_unknown_place block place || list_any (is_unknown block) uses) UnknownName in
    let early = when (list_any (is_early block number) uses) UseBeforeDefinition in
    let missing = when (list_any (is_uncovered block) uses) MissingInit in
    let limits = no-fault (any_name is_long s.name || is_wide_place place || list_any is_wide uses || nat_le 128 number) Limit
    (or_from (any_name is_long s.name || is_wide_place place || list_any is_wide uses) (nat_le 128 number)
    (or_from (any_name is_long s.name || is_wide_place place) (list_any is_wide uses)
    (or_from (any_name is_long s.name) (is_wide_place place) (no-name is_long s.name (λ name named. not-long name (statement-named l is number s name at named))) (narrow-place l is s.place lawful.place))
    (no-use l number s lawful is_wide (not-wide l is number)))
    (lt-leb 128 number few)) in
    let repeats = no-fault (any_name (λ name. is_some (declared before name)) s.name) RepeatedName (no-name (λ name. is_some (declared before name)) s.name (λ name named. not-declared before name (new name named))) in
    let unknowns = no-fault (is_unknown_place block place || list_any (is_unknown block) uses) UnknownName
    (or_from (is_unknown_place block place) (list_any (is_unknown block) uses) (known-place l is s.place lawful.place) (no-use l number s lawful (is_unknown block) (not-unknown l is number))) in
    let earlies = no-fault (list_any (is_early block number) uses) UseBeforeDefinition (no-use l number s lawful (is_early block number) (not-early l is number)) in
    let missings = no-fault (list_any (is_uncovered block) uses) MissingInit (no-use l number s lawful (is_uncovered block) (not-uncovered l is number)) in
    record {
      goes_on = refl;
      standing = ap not (none-joined is_out (lead_forms l) (map (statement_form l) front) (lead-none l is_out (λ a. refl) (λ p. refl) (λ i. refl)) (none-made is_out (statement_form l) (λ s. refl) front));
      faultless = no-faults (((limit ++ repeated) ++ unknown) ++ early) missing
          (no-faults ((limit ++ repeated) ++ unknown) early (no-faults (limit ++ repeated) unknown (no-faults limit repeated limits repeats) unknowns) earlies) missings;
    }

pub statements-fine : (l : LoopData) → IsLoop l → AreFine (body_forms l) (lead_forms l) (map (statement_form l) l.statements)
statements-fine l is = fine-mapped (body_forms l) (lead_forms l) (statement_form l) l.statements (statement-fine l is)
