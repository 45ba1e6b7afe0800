-- The faults of a line as the reader tests them: by an index of the block's names, counts of the lines so far, and tables of what
-- the lines so far gave to the block's values.
use Rattle.std.specs.Prelude.{◌≡◌, ℕ, zero, suc, ℤ, ◌+◌, ◌*◌, ◌<◌, ◌≤◌, ◌==◌, ◌||◌, ◌&&◌, nat_lt, nat_le, not, Bool, true, false, if◌then◌else◌, List, [], ◌∷◌, ◌++◌, length, Option, Some, None, is_some, is_none, slice_index_or, slice_set}
use Rattle.machine_data.specs.declared.limits.TheConstants.{MAX_CELLS}
use Rattle.std.specs.List.{list_any}
use Rattle.loop_lines.specs.Forms.{Form, LoopLine, ArrayLine, ParamLine, InitLine, StatementLine, OutLine, EndLine, Malformed, Use, At}
use Rattle.loop_reader.specs.Meaning.{Declared, AnArray, AParam, AValue, declared, is_value, is_array, is_param, is_statement, how_many, is_long, is_outside, is_wide, is_wide_place, is_unknown, is_unknown_place, is_early, any_name, is_init, init_value, is_out_of, when, whole, forms_of, Kinds}
use Rattle.loop_lines.specs.Parsed.{use_seen}
use Rattle.reader_faults.specs.declared.loops.LoopFaultKind.{LoopFaultKind}
use Rattle.reader_faults.specs.declared.loops.LoopFaultKind.TheVariants.{Limit, RepeatedName, UnknownName, UseBeforeDefinition, MissingInit, Memory}
use Rattle.loop_lines.specs.declared.form.Use as code
use Rattle.loop_reader.specs.declared.names.index.Counts.{Counts}

-- the first of a list
abbrev pub first_in : {A : Type 0} → List A → Option A
first_in [] = None
first_in (x ∷ xs) = Some x

-- a use that may be there passes a test
abbrev pub any_use : (Use → Bool) → Option code.Use → Bool
any_use test None = false
any_use test (Some u) = test (use_seen u)

-- a name's declaration is this one
abbrev pub is_that : Declared → Option Declared → Bool
is_that (AnArray m) (Some (AnArray n)) = m == n
is_that (AParam m) (Some (AParam n)) = m == n
is_that (AValue m) (Some (AValue n)) = m == n
is_that what _ = false

-- the values at the places that are taken
abbrev pub values_taken : List Bool → List ℤ → List (Option ℤ)
values_taken [] values = []
values_taken (taken ∷ rest) [] = []
values_taken (taken ∷ rest) (value ∷ values) = (if taken then Some value else None) ∷ values_taken rest values

-- there are at least as many values as places, and each row of 16 places of which one is taken is marked
pub record IsTable (taken : List Bool) (values : List ℤ) (rows : List Bool) : Type 0 where
  pub room : length taken ≤ length values
  pub rowed : length taken ≤ 16 * length rows
  pub bare : (row place : ℕ) → place < 16 → slice_index_or rows row false ≡ false → slice_index_or taken (16 * row + place) false ≡ false

-- the initial value of a value that is numbered one above this
abbrev pub slot : List (Option ℤ) → ℕ → ℕ → Option ℤ
slot inits value m = slice_index_or inits (16 * value + m) None

-- the initial values from 1 to a distance are there
abbrev pub covers : List (Option ℤ) → ℕ → ℕ → Bool
covers inits value zero = true
covers inits value (suc n) = is_some (slot inits value n) && covers inits value n

abbrev pub covers_name : List (Option ℤ) → Option Declared → ℕ → Bool
covers_name inits declaration zero = true
covers_name inits (Some (AValue value)) (suc n) = covers inits value (suc n)
covers_name inits _ (suc n) = false

-- a use of an earlier iteration that lacks an initial value
abbrev pub lacks_init : List Form → List (Option ℤ) → Use → Bool
lacks_init block inits (At name (Some distance)) = not (covers_name inits (declared block name) distance)
lacks_init block inits _ = false

-- the initial value of this number was given
abbrev pub is_given : List (Option ℤ) → Option Declared → Option ℕ → Bool
is_given inits (Some (AValue value)) (Some (suc m)) = is_some (slot inits value m)
is_given inits _ _ = false

-- an `out` of the value was seen
abbrev pub is_live : List Bool → Option Declared → Bool
is_live outs (Some (AValue value)) = slice_index_or outs value false
is_live outs _ = false

-- the faults of a line after those that `counts` counts
abbrev pub kinds_at : List Form → Counts → List (Option ℤ) → List Bool → Form → Kinds
kinds_at block counts inits outs (ArrayLine name cells) =
    when (is_long name || list_any is_none cells || nat_lt MAX_CELLS (length cells) || nat_le 32 counts.arrays) Limit
    ++ when (not (is_that (AnArray counts.arrays) (declared block name))) RepeatedName
kinds_at block counts inits outs (ParamLine name value) =
    when (is_long name || is_none value || nat_le 64 counts.params) Limit
    ++ when (not (is_that (AParam counts.params) (declared block name))) RepeatedName
kinds_at block counts inits outs (InitLine name number value) =
    when (is_long name || is_outside number || is_none value) Limit
    ++ when (is_given inits (declared block name) number) RepeatedName
    ++ when (not (is_value (declared block name))) UnknownName
kinds_at block counts inits outs (StatementLine source) =
    when (any_name is_long source.name || is_wide_place source.place || list_any is_wide source.uses || nat_le 128 counts.statements) Limit
    ++ when (any_name (λ name. not (is_that (AValue counts.statements) (declared block name))) source.name) RepeatedName
    ++ when (is_unknown_place block source.place || list_any (is_unknown block) source.uses) UnknownName
    ++ when (list_any (is_early block counts.statements) source.uses) UseBeforeDefinition
    ++ when (list_any (lacks_init block inits) source.uses) MissingInit
kinds_at block counts inits outs (OutLine name) =
    when (is_long name) Limit
    ++ when (is_live outs (declared block name)) RepeatedName
    ++ when (not (is_value (declared block name))) UnknownName
    ++ when (not (covers_name inits (declared block name) 1)) MissingInit
kinds_at block counts inits outs EndLine = when (counts.statements == 0) Limit
kinds_at block counts inits outs (LoopLine name) = []
kinds_at block counts inits outs Malformed = []

-- the tables with what one more line gives
abbrev pub with_init : List (Option ℤ) → Option Declared → Option ℕ → Option ℤ → List (Option ℤ)
with_init inits (Some (AValue value)) (Some (suc m)) (Some given) = if nat_lt m 16 then slice_set inits (16 * value + m) (Some given) else inits
with_init inits _ _ _ = inits

abbrev pub inits_with : List Form → List (Option ℤ) → Form → List (Option ℤ)
inits_with block inits (InitLine name number value) = with_init inits (declared block name) number value
inits_with block inits _ = inits

abbrev pub with_live : List Bool → Option Declared → List Bool
with_live outs (Some (AValue value)) = slice_set outs value true
with_live outs _ = outs

abbrev pub outs_with : List Form → List Bool → Form → List Bool
outs_with block outs (OutLine name) = with_live outs (declared block name)
outs_with block outs _ = outs

-- a declaration's number is below the number of lines of its form
abbrev pub IsCounted : List Form → Option Declared → Type 0
IsCounted block None = Unit {0}
IsCounted block (Some (AnArray number)) = number < how_many is_array block
IsCounted block (Some (AParam number)) = number < how_many is_param block
IsCounted block (Some (AValue number)) = number < how_many is_statement block

-- a table of `room` initial values has those of a declaration
abbrev pub IsRoomFor : ℕ → Option Declared → Type 0
IsRoomFor room (Some (AValue number)) = 16 * number + 16 ≤ room
IsRoomFor room _ = Unit {0}

-- the tables hold what the lines so far give to the values of a block
pub record IsGiven (block before : List Form) (inits : List (Option ℤ)) (outs : List Bool) : Type 0 where
  pub room : length inits ≡ 16 * how_many is_statement block
  pub flags : length outs ≡ how_many is_statement block
  pub slots : (name : List ℕ) (value m : ℕ) → declared block name ≡ Some (AValue value) → m < 16 → slot inits value m ≡ init_value name (suc m) before
  pub valued : (name : List ℕ) (m : ℕ) → list_any (is_init name (Some m)) before ≡ is_some (init_value name m before)
  pub known : (name : List ℕ) (number : Option ℕ) → list_any (is_init name number) before ≡ true → (is_value (declared block name) ≡ true) × (m : ℕ) × (number ≡ Some (suc m)) × (m < 16)
  pub marks : (name : List ℕ) (value : ℕ) → declared block name ≡ Some (AValue value) → slice_index_or outs value false ≡ list_any (is_out_of name) before
  pub known_marks : (name : List ℕ) → list_any (is_out_of name) before ≡ true → is_value (declared block name) ≡ true

-- the lines are those that stand in the first block of some lines
abbrev pub IsBlock : List Form → Type 0
IsBlock block = (text : List ℕ) × (block ≡ whole [] (forms_of text))
