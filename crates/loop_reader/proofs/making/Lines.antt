-- What the lines of a block without a fault give to its arrays, parameters, statements, initial values and live values.
use Rattle.std.proofs.Common.{◌≡◌, ℕ, suc, ℤ, pos, ◌+◌, ◌<◌, ◌≤◌, ◌||◌, Bool, true, false, if◌then◌else◌, List, [], ◌∷◌, ◌++◌, length, map, Option, Some, None, is_some, is_none, unwrap_or, nat_lt, nat_le, refl, sym, ◌∙◌, ap, subst, arith, append_assoc}
use Rattle.std.specs.List.{AllByRecursion, list_any, filter_map, cons_option, slice_get}
use Rattle.std.specs.Option.{option_or}
use Rattle.std.proofs.lemmas.Bool.{false≢true, true≢false, or_parts, ltb-false, leb-false, not-false}
use Rattle.std.proofs.lemmas.Int.{ints}
use Rattle.std.proofs.lemmas.List.{length-map}
use Rattle.std.proofs.lemmas.Option.{none-some, same_Some}
use Rattle.machine_data.specs.Opcodes.{same_word}
use Rattle.reader_faults.specs.declared.loops.LoopFaultKind.{LoopFaultKind}
use Rattle.reader_faults.specs.declared.loops.LoopFaultKind.TheVariants.{Limit, RepeatedName, UnknownName, UseBeforeDefinition, MissingInit}
use Rattle.loop_data.specs.declared.language.lists.Array.{Array}
use Rattle.loop_data.specs.declared.language.lists.Param.{Param}
use Rattle.loop_reader.specs.inner.Blocks.{one_if}
use Rattle.loop_lines.specs.Forms.{Form, LoopLine, ArrayLine, ParamLine, InitLine, StatementLine, OutLine, EndLine, Malformed, StatementForm, Subscript, Use}
use Rattle.loop_data.specs.Loops.{IsName, IsLong, HasShape}
use Rattle.loop_reader.specs.Meaning.{Declared, AnArray, AParam, AValue, declared, first_declared, how_many, is_array, is_param, is_statement, is_value, is_array_name, any_name, faults_of, when, Kinds, is_long, is_wide, is_wide_place, is_unknown, is_unknown_place, is_early, is_uncovered, array_in, param_in, statement_in, statement_of, number_at}
use Rattle.loop_reader.proofs.lookups.Declared.{declared-append, declared_after, same_word-here, same_word-yes, how_many-push, how_many-cons}
use Rattle.loop_reader.proofs.making.Numbered.{EachFrom}
use Rattle.loop_reader.proofs.making.Spelled.{IsSpelled, IsSpelledUse, IsStatementForm, IsOffset, IsKept, OnSome}

-- each line of a block is spelled and has no fault after the lines before it
pub record IsClean (block : List Form) : Type 0 where
  pub spelled : (front : List Form) (form : Form) (after : List Form) → block ≡ front ++ form ∷ after → IsSpelled form
  pub faultless : (front : List Form) (form : Form) (after : List Form) → block ≡ front ++ form ∷ after → faults_of front block form ≡ []

-- what the lines of a form give, by its number

numbered-step : {Y : Type 0} (P : ℕ → Y → Type 0) (p : Form → Bool) (before : List Form) (form : Form) (o : Option Y) (ys : List Y) → is_some o ≡ p form → ((y : Y) → o ≡ Some y → P (how_many p before) y)
    → EachFrom P (how_many p (before ++ form ∷ [])) ys → EachFrom P (how_many p before) (cons_option o ys)
numbered-step P p before form None ys h each rest =
    let k = how_many-push p before form ∙ ap (λ b. how_many p before + one_if b) (sym h) in
    let e : how_many p (before ++ form ∷ []) ≡ how_many p before = omega arith in
    subst (λ n. EachFrom P n ys) e rest
numbered-step P p before form (Some y) ys h each rest = (each y refl, subst (λ n. EachFrom P n ys) (how_many-push p before form ∙ ap (λ b. how_many p before + one_if b) (sym h)) rest)

numbered-from : {Y : Type 0} (P : ℕ → Y → Type 0) (p : Form → Bool) (f : Form → Option Y) → ((form : Form) → is_some (f form) ≡ p form) → (block before forms : List Form)
    → ((front : List Form) (form : Form) (after : List Form) → block ≡ front ++ form ∷ after → (y : Y) → f form ≡ Some y → P (how_many p front) y)
    → block ≡ before ++ forms → EachFrom P (how_many p before) (filter_map f forms)
numbered-from P p f agree block before [] each e = tt
numbered-from P p f agree block before (form ∷ forms) each e =
    numbered-step P p before form (f form) (filter_map f forms) (agree form) (λ y h. each before form forms e y h)
    (numbered-from P p f agree block (before ++ form ∷ []) forms each (e ∙ sym (append_assoc before (form ∷ []) forms)))

pub numbered : {Y : Type 0} (P : ℕ → Y → Type 0) (p : Form → Bool) (f : Form → Option Y) → ((form : Form) → is_some (f form) ≡ p form) → (block : List Form)
    → ((front : List Form) (form : Form) (after : List Form) → block ≡ front ++ form ∷ after → (y : Y) → f form ≡ Some y → P (how_many p front) y)
    → EachFrom P 0 (filter_map f block)
numbered P p f agree block each = numbered-from P p f agree block [] block each refl

count-step : {Y : Type 0} (b : Bool) (o : Option Y) (ys : List Y) → is_some o ≡ b → length (cons_option o ys) ≡ one_if b + length ys
count-step b None ys h = let e = ap one_if h in omega arith
count-step b (Some y) ys h = let e = ap one_if h in omega arith

pub numbered-length : {Y : Type 0} (p : Form → Bool) (f : Form → Option Y) → ((form : Form) → is_some (f form) ≡ p form) → (forms : List Form) → length (filter_map f forms) ≡ how_many p forms
numbered-length p f agree [] = refl
numbered-length p f agree (form ∷ forms) =
    let a = count-step (p form) (f form) (filter_map f forms) (agree form) in
    let b = numbered-length p f agree forms in
    let c = how_many-cons p form forms in
    omega arith

pub array-agrees : (form : Form) → is_some (array_in form) ≡ is_array form
array-agrees (ArrayLine n c) = refl
array-agrees _ = refl

pub param-agrees : (form : Form) → is_some (param_in form) ≡ is_param form
param-agrees (ParamLine n v) = refl
param-agrees _ = refl

pub source-agrees : (form : Form) → is_some (statement_in form) ≡ is_statement form
source-agrees (StatementLine s) = refl
source-agrees _ = refl

-- faults

is_empty : {X : Type 0} → List X → Bool
is_empty [] = true
is_empty (x ∷ xs) = false

filled : {X : Type 0} (x : X) (xs : List X) → x ∷ xs ≡ [] → ⊥
unfolding is_empty
filled x xs h = false≢true (ap is_empty h)

when-parts : (b : Bool) (kind : LoopFaultKind) (rest : Kinds) → when b kind ++ rest ≡ [] → (b ≡ false) × (rest ≡ [])
when-parts true kind rest h = absurd (filled kind rest h)
when-parts false kind rest h = (refl, h)

pub when-only : (b : Bool) (kind : LoopFaultKind) → when b kind ≡ [] → b ≡ false
when-only true kind h = absurd (filled kind [] h)
when-only false kind h = refl

pub append-none : (xs ys : Kinds) → xs ++ ys ≡ [] → (xs ≡ []) × (ys ≡ [])
append-none [] ys h = (refl, h)
append-none (x ∷ xs) ys h = absurd (filled x (xs ++ ys) h)

none-is : {X : Type 0} (o : Option X) → is_some o ≡ false → o ≡ None
none-is None h = refl
none-is (Some x) h = absurd (true≢false h)

pub some-is : {X : Type 0} (o : Option X) → is_none o ≡ false → (x : X) × (o ≡ Some x)
some-is None h = absurd (true≢false h)
some-is (Some x) h = (x, refl)

-- a name that no line before declares is declared here
declared-here : (block front : List Form) (form : Form) (after : List Form) (name : List ℕ) (d : Declared) → block ≡ front ++ form ∷ after → is_some (declared front name) ≡ false → declared_after name front form ≡ Some d
    → declared block name ≡ Some d
declared-here block front form after name d e none here =
    ap (λ b. declared b name) e ∙ declared-append name front (form ∷ after)
    ∙ ap (λ o. option_or o (first_declared name front (form ∷ after))) (none-is (declared front name) none)
    ∙ ap (λ o. option_or o (first_declared name (front ++ form ∷ []) after)) here

-- numbers

pub kept-long : (value : Option ℤ) → IsKept value → IsLong (unwrap_or value (pos 0))
kept-long None h = (omega (arith, ints), omega (arith, ints))
kept-long (Some z) h = h

cells-long : (cells : List (Option ℤ)) → AllByRecursion IsKept cells → AllByRecursion IsLong (map (λ cell. unwrap_or cell (pos 0)) cells)
cells-long [] h = tt
cells-long (cell ∷ cells) h = (kept-long cell h.0, cells-long cells h.1)

-- arrays

pub record IsArrayAt (block : List Form) (n : ℕ) (a : Array) : Type 0 where
  pub name : IsName a.name
  pub cells : length a.cells ≤ 1024
  pub values : AllByRecursion IsLong a.cells
  pub few : n < 32
  pub is : declared block a.name ≡ Some (AnArray n)

array-line : (block front after : List Form) (name : List ℕ) (cells : List (Option ℤ)) → IsClean block → block ≡ front ++ ArrayLine name cells ∷ after
    → IsArrayAt block (how_many is_array front) (record { name = name; cells = map (λ cell. unwrap_or cell (pos 0)) cells })
array-line block front after name cells clean e =
    let spelled = clean.spelled front (ArrayLine name cells) after e in
    let faults = clean.faultless front (ArrayLine name cells) after e in
    let wide = is_long name || list_any is_none cells || nat_lt 1024 (length cells) || nat_le 32 (how_many is_array front) in
    let parts = when-parts wide Limit (when (is_some (declared front name)) RepeatedName) faults in
    let many = or_parts (is_long name || list_any is_none cells || nat_lt 1024 (length cells)) (nat_le 32 (how_many is_array front)) parts.0 in
    let large = or_parts (is_long name || list_any is_none cells) (nat_lt 1024 (length cells)) many.0 in
    let long = or_parts (is_long name) (list_any is_none cells) large.0 in
    let size = ltb-false 1024 (length cells) large.1 in
    let count : length (map (λ (cell : Option ℤ). unwrap_or cell (pos 0)) cells) ≡ length cells = length-map cells (λ (cell : Option ℤ). unwrap_or cell (pos 0)) in
    record {
      name = record { formed = spelled.0; short = ltb-false 16 (length name) long.0 };
      cells = omega arith;
      values = cells-long cells spelled.1;
      few = leb-false 32 (how_many is_array front) many.1;
      is = declared-here block front (ArrayLine name cells) after name (AnArray (how_many is_array front)) e (when-only (is_some (declared front name)) RepeatedName parts.1)
          (ap (λ b. if b then Some (AnArray (how_many is_array front)) else None) (same_word-here name));
    }

array-at : (block : List Form) → IsClean block → (front : List Form) (form : Form) (after : List Form) → block ≡ front ++ form ∷ after → (a : Array) → array_in form ≡ Some a → IsArrayAt block (how_many is_array front) a
array-at block clean front (ArrayLine name cells) after e a h =
    subst (IsArrayAt block (how_many is_array front)) (same_Some (record { name = name; cells = map (λ cell. unwrap_or cell (pos 0)) cells }) a h) (array-line block front after name cells clean e)
array-at block clean front _ after e a h = absurd (none-some a h)

pub arrays-at : (block : List Form) → IsClean block → EachFrom (IsArrayAt block) 0 (filter_map array_in block)
arrays-at block clean = numbered (IsArrayAt block) is_array array_in array-agrees block (array-at block clean)

-- parameters

pub record IsParamAt (block : List Form) (n : ℕ) (p : Param) : Type 0 where
  pub name : IsName p.name
  pub value : IsLong p.value
  pub few : n < 64
  pub is : declared block p.name ≡ Some (AParam n)

param-line : (block front after : List Form) (name : List ℕ) (value : Option ℤ) → IsClean block → block ≡ front ++ ParamLine name value ∷ after
    → IsParamAt block (how_many is_param front) (record { name = name; value = unwrap_or value (pos 0) })
param-line block front after name value clean e =
    let spelled = clean.spelled front (ParamLine name value) after e in
    let faults = clean.faultless front (ParamLine name value) after e in
    let parts = when-parts (is_long name || is_none value || nat_le 64 (how_many is_param front)) Limit (when (is_some (declared front name)) RepeatedName) faults in
    let many = or_parts (is_long name || is_none value) (nat_le 64 (how_many is_param front)) parts.0 in
    let long = or_parts (is_long name) (is_none value) many.0 in
    record {
      name = record { formed = spelled.0; short = ltb-false 16 (length name) long.0 };
      value = kept-long value spelled.1;
      few = leb-false 64 (how_many is_param front) many.1;
      is = declared-here block front (ParamLine name value) after name (AParam (how_many is_param front)) e (when-only (is_some (declared front name)) RepeatedName parts.1)
          (ap (λ b. if b then Some (AParam (how_many is_param front)) else None) (same_word-here name));
    }

param-at : (block : List Form) → IsClean block → (front : List Form) (form : Form) (after : List Form) → block ≡ front ++ form ∷ after → (p : Param) → param_in form ≡ Some p → IsParamAt block (how_many is_param front) p
param-at block clean front (ParamLine name value) after e p h =
    subst (IsParamAt block (how_many is_param front)) (same_Some (record { name = name; value = unwrap_or value (pos 0) }) p h) (param-line block front after name value clean e)
param-at block clean front _ after e p h = absurd (none-some p h)

pub params-at : (block : List Form) → IsClean block → EachFrom (IsParamAt block) 0 (filter_map param_in block)
params-at block clean = numbered (IsParamAt block) is_param param_in param-agrees block (param-at block clean)

-- statements

-- a use by the statement of this number
pub record IsUseAt (block : List Form) (n : ℕ) (u : Use) : Type 0 where
  pub near : IsSpelledUse u
  pub narrow : is_wide u ≡ false
  pub known : is_unknown block u ≡ false
  pub late : is_early block n u ≡ false
  pub covered : is_uncovered block u ≡ false

pub record IsStatementAt (block : List Form) (n : ℕ) (s : StatementForm) : Type 0 where
  pub few : n < 128
  pub named : (name : List ℕ) → s.name ≡ Some name → IsName name
  pub is : (name : List ℕ) → s.name ≡ Some name → declared block name ≡ Some (AValue n)
  pub shape : HasShape s.opcode (statement_of block s)
  pub offset : (p : Subscript) → s.place ≡ Some p → (z : ℤ) × (p.offset ≡ Some z) × IsOffset (Some z)
  pub array : (p : Subscript) → s.place ≡ Some p → is_array_name (declared block p.array) ≡ true
  pub uses : AllByRecursion (IsUseAt block n) s.uses

uses-at : (block : List Form) (n : ℕ) (uses : List Use) → AllByRecursion IsSpelledUse uses → list_any is_wide uses ≡ false → list_any (is_unknown block) uses ≡ false → list_any (is_early block n) uses ≡ false
    → list_any (is_uncovered block) uses ≡ false → AllByRecursion (IsUseAt block n) uses
uses-at block n [] near wide unknown early uncovered = tt
uses-at block n (u ∷ uses) near wide unknown early uncovered =
    let w = or_parts (is_wide u) (list_any is_wide uses) wide in
    let k = or_parts (is_unknown block u) (list_any (is_unknown block) uses) unknown in
    let l = or_parts (is_early block n u) (list_any (is_early block n) uses) early in
    let c = or_parts (is_uncovered block u) (list_any (is_uncovered block) uses) uncovered in
    (record { near = near.0; narrow = w.0; known = k.0; late = l.0; covered = c.0 }, uses-at block n uses near.1 w.1 k.1 l.1 c.1)

offset-at : (p : Subscript) → IsOffset p.offset → is_none p.offset ≡ false → (z : ℤ) × (p.offset ≡ Some z) × IsOffset (Some z)
offset-at p near narrow = let s = some-is p.offset narrow in (s.0, s.1, subst IsOffset s.1 near)

source-line : (block front after : List Form) (s : StatementForm) → IsClean block → block ≡ front ++ StatementLine s ∷ after → IsStatementAt block (how_many is_statement front) s
source-line block front after s clean e =
    let n = how_many is_statement front in
    let spelled : IsStatementForm s = clean.spelled front (StatementLine s) after e in
    let faults = clean.faultless front (StatementLine s) after e in
    let limit = when (any_name is_long s.name || is_wide_place s.place || list_any is_wide s.uses || nat_le 128 n) Limit in
    let repeated = when (any_name (λ name. is_some (declared front name)) s.name) RepeatedName in
    let unknown = when (is_unknown_place block s.place || list_any (is_unknown block) s.uses) UnknownName in
    let early = when (list_any (is_early block n) s.uses) UseBeforeDefinition in
    let missing = when (list_any (is_uncovered block) s.uses) MissingInit in
    let q5 = append-none (((limit ++ repeated) ++ unknown) ++ early) missing faults in
    let q4 = append-none ((limit ++ repeated) ++ unknown) early q5.0 in
    let q3 = append-none (limit ++ repeated) unknown q4.0 in
    let q2 = append-none limit repeated q3.0 in
    let p1 = when-only (any_name is_long s.name || is_wide_place s.place || list_any is_wide s.uses || nat_le 128 n) Limit q2.0 in
    let p2 = when-only (any_name (λ name. is_some (declared front name)) s.name) RepeatedName q2.1 in
    let p3 = when-only (is_unknown_place block s.place || list_any (is_unknown block) s.uses) UnknownName q3.1 in
    let p4 = when-only (list_any (is_early block n) s.uses) UseBeforeDefinition q4.1 in
    let p5 = when-only (list_any (is_uncovered block) s.uses) MissingInit q5.1 in
    let many = or_parts (any_name is_long s.name || is_wide_place s.place || list_any is_wide s.uses) (nat_le 128 n) p1 in
    let wide = or_parts (any_name is_long s.name || is_wide_place s.place) (list_any is_wide s.uses) many.0 in
    let long = or_parts (any_name is_long s.name) (is_wide_place s.place) wide.0 in
    let strange = or_parts (is_unknown_place block s.place) (list_any (is_unknown block) s.uses) p3 in
    record {
      few = leb-false 128 n many.1;
      named = λ name h. record { formed = spelled.named name h; short = ltb-false 16 (length name) (sym (ap (any_name is_long) h) ∙ long.0) };
      is = λ name h. declared-here block front (StatementLine s) after name (AValue n) e (sym (ap (any_name (λ name. is_some (declared front name))) h) ∙ p2)
          (ap (λ b. if b then Some (AValue n) else None) (ap (any_name (same_word name)) h ∙ same_word-here name));
      shape = spelled.shape block;
      offset = λ p h. offset-at p (subst (OnSome (λ (p : Subscript). IsOffset p.offset)) h spelled.place) (or_parts (is_long p.array) (is_none p.offset) (sym (ap is_wide_place h) ∙ long.1)).1;
      array = λ p h. not-false (is_array_name (declared block p.array)) (sym (ap (is_unknown_place block) h) ∙ strange.0);
      uses = uses-at block n s.uses spelled.uses wide.1 strange.1 p4 p5;
    }

source-at : (block : List Form) → IsClean block → (front : List Form) (form : Form) (after : List Form) → block ≡ front ++ form ∷ after → (s : StatementForm) → statement_in form ≡ Some s → IsStatementAt block (how_many is_statement front) s
source-at block clean front (StatementLine source) after e s h = subst (IsStatementAt block (how_many is_statement front)) (same_Some source s h) (source-line block front after source clean e)
source-at block clean front _ after e s h = absurd (none-some s h)

pub sources-at : (block : List Form) → IsClean block → EachFrom (IsStatementAt block) 0 (filter_map statement_in block)
sources-at block clean = numbered (IsStatementAt block) is_statement statement_in source-agrees block (source-at block clean)

-- the value that a name stands for is that of a statement of this name

name-is : (name : List ℕ) (o : Option (List ℕ)) → any_name (same_word name) o ≡ true → o ≡ Some name
name-is name None h = absurd (false≢true h)
name-is name (Some n) h = ap Some (sym (same_word-yes name n h))

in-statement : (before : List Form) (s : StatementForm) (forms : List Form) (name : List ℕ) (v : ℕ) (b : Bool) (rest : Option Declared) → any_name (same_word name) s.name ≡ b
    → option_or (if b then Some (AValue (how_many is_statement before)) else None) rest ≡ Some (AValue v)
    → (rest ≡ Some (AValue v) → (k : ℕ) × (t : StatementForm) × (v ≡ how_many is_statement (before ++ StatementLine s ∷ []) + k) × (slice_get (filter_map statement_in forms) k ≡ Some t) × (t.name ≡ Some name))
    → (k : ℕ) × (t : StatementForm) × (v ≡ how_many is_statement before + k) × (slice_get (filter_map statement_in (StatementLine s ∷ forms)) k ≡ Some t) × (t.name ≡ Some name)
in-statement before s forms name v true rest e h later =
    let same = ap number_at h in
    (0, s, omega arith, refl, name-is name s.name e)
in-statement before s forms name v false rest e h later =
    let r = later h in
    let is = r.2 in
    let push = how_many-push is_statement before (StatementLine s) in
    (suc r.0, r.1, omega arith, r.3, r.4)

not-first : (b : Bool) (d : Declared) (rest : Option Declared) (v : ℕ) → is_value (Some d) ≡ false → option_or (if b then Some d else None) rest ≡ Some (AValue v) → rest ≡ Some (AValue v)
not-first true d rest v other h = absurd (false≢true (sym other ∙ ap is_value h))
not-first false d rest v other h = h

abbrev IsValueIn : List ℕ → ℕ → List Form → List Form → Type 0
IsValueIn name v before forms = (k : ℕ) × (t : StatementForm) × (v ≡ how_many is_statement before + k) × (slice_get (filter_map statement_in forms) k ≡ Some t) × (t.name ≡ Some name)

other-line : (name : List ℕ) (v : ℕ) (before : List Form) (form : Form) (forms : List Form) → is_statement form ≡ false → IsValueIn name v (before ++ form ∷ []) forms → IsValueIn name v before forms
other-line name v before form forms other r =
    let is = r.2 in
    let push = how_many-push is_statement before form ∙ ap (λ b. how_many is_statement before + one_if b) other in
    (r.0, r.1, omega arith, r.3, r.4)

value-from : (name : List ℕ) (v : ℕ) (before forms : List Form) → first_declared name before forms ≡ Some (AValue v) → IsValueIn name v before forms
value-from name v before [] h = absurd (none-some (AValue v) h)
value-from name v before (LoopLine n ∷ forms) h = other-line name v before (LoopLine n) forms refl (value-from name v (before ++ LoopLine n ∷ []) forms h)
value-from name v before (ArrayLine n c ∷ forms) h =
    other-line name v before (ArrayLine n c) forms refl (value-from name v (before ++ ArrayLine n c ∷ []) forms
    (not-first (same_word name n) (AnArray (how_many is_array before)) (first_declared name (before ++ ArrayLine n c ∷ []) forms) v refl h))
value-from name v before (ParamLine n c ∷ forms) h =
    other-line name v before (ParamLine n c) forms refl (value-from name v (before ++ ParamLine n c ∷ []) forms
    (not-first (same_word name n) (AParam (how_many is_param before)) (first_declared name (before ++ ParamLine n c ∷ []) forms) v refl h))
value-from name v before (InitLine n m c ∷ forms) h = other-line name v before (InitLine n m c) forms refl (value-from name v (before ++ InitLine n m c ∷ []) forms h)
value-from name v before (StatementLine s ∷ forms) h =
    in-statement before s forms name v (any_name (same_word name) s.name) (first_declared name (before ++ StatementLine s ∷ []) forms) refl h (λ r. value-from name v (before ++ StatementLine s ∷ []) forms r)
value-from name v before (OutLine n ∷ forms) h = other-line name v before (OutLine n) forms refl (value-from name v (before ++ OutLine n ∷ []) forms h)
value-from name v before (EndLine ∷ forms) h = other-line name v before EndLine forms refl (value-from name v (before ++ EndLine ∷ []) forms h)
value-from name v before (Malformed ∷ forms) h = other-line name v before Malformed forms refl (value-from name v (before ++ Malformed ∷ []) forms h)

pub value-named : (block : List Form) (name : List ℕ) (v : ℕ) → declared block name ≡ Some (AValue v) → (t : StatementForm) × (slice_get (filter_map statement_in block) v ≡ Some t) × (t.name ≡ Some name)
unfolding declared
value-named block name v h =
    let r = value-from name v [] block h in
    let is = r.2 in
    let none : how_many is_statement [] ≡ 0 = refl in
    let e : r.0 ≡ v = omega arith in
    (r.1, ap (slice_get (filter_map statement_in block)) (sym e) ∙ r.3, r.4)

-- a value has one name
pub one-name : (block : List Form) (a b : List ℕ) (v : ℕ) → declared block a ≡ Some (AValue v) → declared block b ≡ Some (AValue v) → a ≡ b
one-name block a b v h k =
    let x = value-named block a v h in
    let y = value-named block b v k in
    let same = same_Some x.0 y.0 (sym x.1 ∙ y.1) in
    same_Some a b (sym x.2 ∙ ap (λ (s : StatementForm). s.name) same ∙ y.2)

pub value-of : (d : Option Declared) → is_value d ≡ true → (v : ℕ) × (d ≡ Some (AValue v))
value-of None h = absurd (false≢true h)
value-of (Some (AnArray n)) h = absurd (false≢true h)
value-of (Some (AParam n)) h = absurd (false≢true h)
value-of (Some (AValue n)) h = (n, refl)
