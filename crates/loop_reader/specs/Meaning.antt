-- What a loop text means: its loops, or the first line at fault with its first fault.
--
-- A line with a syntax fault declares nothing and counts as no line of its form. The others stand. All look-ups go over the
-- standing lines of a block: over those before the line where a rule says "earlier", and else over all of them.
use Rattle.std.specs.Prelude.{◌≡◌, ℕ, zero, suc, ℤ, pos, ◌+◌, ◌==◌, ◌||◌, ◌&&◌, nat_lt, nat_le, not, Bool, true, false, if◌then◌else◌, List, [], ◌∷◌, ◌++◌, length, map, Option, Some, None, is_some, is_none, unwrap_or, option_map, Result, Ok, Err, Vec}
use Rattle.machine_data.specs.declared.limits.TheConstants.{MAX_ARRAYS, MAX_CELLS, MAX_LOOPS, MAX_NAME, MAX_PARAMETERS, MAX_STATEMENTS, MAX_TEXT}
use Rattle.std.specs.Global.{Global}
use Rattle.std.specs.Option.{option_or}
use Rattle.std.specs.List.{list_any, filter_map, count_by}
use Rattle.machine_data.specs.Opcodes.{same_word}
use Rattle.reader_faults.specs.declared.loops.LoopFault.{LoopFault}
use Rattle.reader_faults.specs.declared.loops.LoopFaultKind.{LoopFaultKind}
use Rattle.reader_faults.specs.declared.loops.LoopFaultKind.TheVariants.{Syntax, Limit, RepeatedName, UnknownName, UseBeforeDefinition, MissingInit, NoEnd}
use Rattle.loop_data.specs.declared.language.lists.Array.{Array}
use Rattle.loop_data.specs.declared.language.lists.Param.{Param}
use Rattle.loop_data.specs.declared.language.lists.Initial.{Initial}
use Rattle.loop_data.specs.declared.language.statement.Operand.{Operand}
use Rattle.loop_data.specs.declared.language.statement.Operand.TheVariants.{Constant, Parameter, Value}
use Rattle.loop_data.specs.declared.language.statement.Place.{Place}
use Rattle.loop_data.specs.declared.language.statement.Statement.{Statement}
use Rattle.loop_lines.specs.Forms.{Form, LoopLine, ArrayLine, ParamLine, InitLine, StatementLine, OutLine, EndLine, Malformed, Use, Number, Plain, At, StatementForm, Subscript, line_form}
use Rattle.loop_data.specs.Loops.{LoopData}
use Rattle.loop_lines.specs.Words.{lines_of, words_of}

-- which form a line has

abbrev pub is_array : Form → Bool
is_array (ArrayLine name cells) = true
is_array _ = false

abbrev pub is_param : Form → Bool
is_param (ParamLine name value) = true
is_param _ = false

abbrev pub is_statement : Form → Bool
is_statement (StatementLine source) = true
is_statement _ = false

abbrev pub is_out : Form → Bool
is_out (OutLine name) = true
is_out _ = false

abbrev pub has_statement : List Form → Bool
has_statement block = list_any is_statement block

abbrev pub has_out : List Form → Bool
has_out block = list_any is_out block

-- the line may stand in a block after these standing lines: arrays, parameters and initial values only before the first
-- statement, statements only before the first `out`, and outs only after a statement
abbrev pub stands : List Form → Form → Bool
stands before (LoopLine name) = false
stands before (ArrayLine name cells) = not (has_statement before)
stands before (ParamLine name value) = not (has_statement before)
stands before (InitLine name number value) = not (has_statement before)
stands before (StatementLine source) = not (has_out before)
stands before (OutLine name) = has_statement before
stands before EndLine = true
stands before Malformed = false

-- the standing lines of a block, with one more line
abbrev pub with_line : List Form → Form → List Form
with_line before form = if stands before form then before ++ form ∷ [] else before

-- all standing lines of a block: those so far, and those up to the next `end`. A line without words is None
abbrev pub whole : List Form → List (Option Form) → List Form
whole before [] = before
whole before (None ∷ lines) = whole before lines
whole before (Some EndLine ∷ lines) = before
whole before (Some form ∷ lines) = whole (with_line before form) lines

-- what a block declares

-- a name by its first declaration: an array, a parameter or the value of a statement, by its number
pub data Declared : Type 0 where
  AnArray : ℕ → Declared
  AParam : ℕ → Declared
  AValue : ℕ → Declared

abbrev pub any_name : (List ℕ → Bool) → Option (List ℕ) → Bool
any_name test None = false
any_name test (Some name) = test name

-- a line's declaration of `name`, after `arrays` arrays, `params` parameters and `statements` statements
abbrev pub declared_by : List ℕ → ℕ → ℕ → ℕ → Form → Option Declared
declared_by name arrays params statements (ArrayLine other cells) = if same_word name other then Some (AnArray arrays) else None
declared_by name arrays params statements (ParamLine other value) = if same_word name other then Some (AParam params) else None
declared_by name arrays params statements (StatementLine source) = if any_name (same_word name) source.name then Some (AValue statements) else None
declared_by name arrays params statements _ = None

abbrev pub how_many : (Form → Bool) → List Form → ℕ
how_many is_it block = count_by is_it block

-- the first declaration of a name in a block
abbrev pub first_declared : List ℕ → List Form → List Form → Option Declared
first_declared name before [] = None
first_declared name before (form ∷ forms) =
    option_or (declared_by name (how_many is_array before) (how_many is_param before) (how_many is_statement before) form)
    (first_declared name (before ++ form ∷ []) forms)

unfoldable pub declared : List Form → List ℕ → Option Declared
declared block name = first_declared name [] block

abbrev pub is_value : Option Declared → Bool
is_value (Some (AValue number)) = true
is_value _ = false

abbrev pub is_array_name : Option Declared → Bool
is_array_name (Some (AnArray number)) = true
is_array_name _ = false

-- a plain name is a parameter or a value
abbrev pub is_readable : Option Declared → Bool
is_readable (Some (AValue number)) = true
is_readable (Some (AParam number)) = true
is_readable _ = false

-- the value of a statement from this one on
abbrev pub is_value_from : ℕ → Option Declared → Bool
is_value_from statement (Some (AValue number)) = nat_le statement number
is_value_from statement _ = false

-- initial values

abbrev pub same_number : Option ℕ → Option ℕ → Bool
same_number (Some m) (Some n) = m == n
same_number None None = true
same_number _ _ = false

-- the line gives the name its initial value of this number
abbrev pub is_init : List ℕ → Option ℕ → Form → Bool
is_init name number (InitLine other n value) = same_word name other && same_number number n
is_init name number _ = false

abbrev pub has_init : List Form → List ℕ → ℕ → Bool
has_init block name number = list_any (is_init name (Some number)) block

-- each initial value from 1 to a distance is there
abbrev pub has_inits : List Form → List ℕ → ℕ → Bool
has_inits block name zero = true
has_inits block name (suc n) = has_init block name (suc n) && has_inits block name n

abbrev pub is_out_of : List ℕ → Form → Bool
is_out_of name (OutLine other) = same_word name other
is_out_of name _ = false

-- faults of a standing line

abbrev pub Kinds : Type 0
Kinds = List LoopFaultKind

abbrev pub when : Bool → LoopFaultKind → Kinds
when true kind = kind ∷ []
when false kind = []

abbrev pub is_long : List ℕ → Bool
is_long name = nat_lt MAX_NAME (length name)

abbrev pub is_outside : Option ℕ → Bool
is_outside None = true
is_outside (Some n) = n == 0

-- a use with a number or a name outside the limits
abbrev pub is_wide : Use → Bool
is_wide (Number value) = is_none value
is_wide (Plain name) = is_long name
is_wide (At name distance) = is_long name || is_none distance

abbrev pub is_wide_place : Option Subscript → Bool
is_wide_place None = false
is_wide_place (Some place) = is_long place.array || is_none place.offset

abbrev pub is_unknown_place : List Form → Option Subscript → Bool
is_unknown_place block None = false
is_unknown_place block (Some place) = not (is_array_name (declared block place.array))

-- a use of what is neither a parameter nor a value, or at a distance of what is no value
abbrev pub is_unknown : List Form → Use → Bool
is_unknown block (Number value) = false
is_unknown block (Plain name) = not (is_readable (declared block name))
is_unknown block (At name distance) = not (is_value (declared block name))

-- a use of a value of this iteration, by the statement of this number, that is given by it or by a later one
abbrev pub is_early : List Form → ℕ → Use → Bool
is_early block statement (Number value) = false
is_early block statement (Plain name) = is_value_from statement (declared block name)
is_early block statement (At name distance) = same_number distance (Some 0) && is_value_from statement (declared block name)

-- a use of a value of an earlier iteration that lacks an initial value
abbrev pub is_uncovered : List Form → Use → Bool
is_uncovered block (At name (Some distance)) = not (has_inits block name distance)
is_uncovered block _ = false

-- the faults of a standing line, in order, after the lines before it, in its block
abbrev pub faults_of : List Form → List Form → Form → Kinds
faults_of before block (ArrayLine name cells) =
    when (is_long name || list_any is_none cells || nat_lt MAX_CELLS (length cells) || nat_le MAX_ARRAYS (how_many is_array before)) Limit
    ++ when (is_some (declared before name)) RepeatedName
faults_of before block (ParamLine name value) =
    when (is_long name || is_none value || nat_le MAX_PARAMETERS (how_many is_param before)) Limit
    ++ when (is_some (declared before name)) RepeatedName
faults_of before block (InitLine name number value) =
    when (is_long name || is_outside number || is_none value) Limit
    ++ when (list_any (is_init name number) before) RepeatedName
    ++ when (not (is_value (declared block name))) UnknownName
faults_of before block (StatementLine source) =
    when (any_name is_long source.name || is_wide_place source.place || list_any is_wide source.uses || nat_le MAX_STATEMENTS (how_many is_statement before)) Limit
    ++ when (any_name (λ name. is_some (declared before name)) source.name) RepeatedName
    ++ when (is_unknown_place block source.place || list_any (is_unknown block) source.uses) UnknownName
    ++ when (list_any (is_early block (how_many is_statement before)) source.uses) UseBeforeDefinition
    ++ when (list_any (is_uncovered block) source.uses) MissingInit
faults_of before block (OutLine name) =
    when (is_long name) Limit
    ++ when (list_any (is_out_of name) before) RepeatedName
    ++ when (not (is_value (declared block name))) UnknownName
    ++ when (not (has_init block name 1)) MissingInit
faults_of before block EndLine = when (not (has_statement before)) Limit
faults_of before block (LoopLine name) = []
faults_of before block Malformed = []

-- the faults of a line that opens a block, after those that opened the blocks before it
abbrev pub opening_faults : List (List ℕ) → List ℕ → Kinds
opening_faults names name =
    when (is_long name || nat_le MAX_LOOPS (length names)) Limit ++ when (list_any (same_word name) names) RepeatedName

-- the faults of a line in a block
abbrev pub line_faults : List Form → List Form → Form → Kinds
line_faults before block form = if stands before form then faults_of before block form else Syntax ∷ []

-- faults of a text

abbrev pub at_line : ℕ → Kinds → List LoopFault
at_line line kinds = map (λ kind. record { line = line; kind = kind }) kinds

-- the faults of lines outside a block and of those inside one, from the line of this number on: each line's, in order.
-- names are those of the loops so far, and before the standing lines of the block so far
abbrev mutual
  pub outside_faults : ℕ → List (List ℕ) → List (Option Form) → List LoopFault
  outside_faults line names [] = []
  outside_faults line names (None ∷ lines) = outside_faults (line + 1) names lines
  outside_faults line names (Some (LoopLine name) ∷ lines) =
      at_line line (opening_faults names name) ++ inside_faults (line + 1) (names ++ name ∷ []) [] lines
  outside_faults line names (Some form ∷ lines) = at_line line (Syntax ∷ []) ++ outside_faults (line + 1) names lines

  pub inside_faults : ℕ → List (List ℕ) → List Form → List (Option Form) → List LoopFault
  inside_faults line names before [] = at_line line (NoEnd ∷ [])
  inside_faults line names before (None ∷ lines) = inside_faults (line + 1) names before lines
  inside_faults line names before (Some EndLine ∷ lines) =
      at_line line (faults_of before before EndLine) ++ outside_faults (line + 1) names lines
  inside_faults line names before (Some form ∷ lines) =
      at_line line (line_faults before (whole before (Some form ∷ lines)) form)
      ++ inside_faults (line + 1) names (with_line before form) lines

-- loops

-- the blocks of a text, each by the name in its first line and its standing lines
abbrev mutual
  pub blocks_of : List (Option Form) → List (List ℕ × List Form)
  blocks_of [] = []
  blocks_of (Some (LoopLine name) ∷ lines) = blocks_from name [] lines
  blocks_of (_ ∷ lines) = blocks_of lines

  pub blocks_from : List ℕ → List Form → List (Option Form) → List (List ℕ × List Form)
  blocks_from name before [] = (name, before) ∷ []
  blocks_from name before (None ∷ lines) = blocks_from name before lines
  blocks_from name before (Some EndLine ∷ lines) = (name, before) ∷ blocks_of lines
  blocks_from name before (Some form ∷ lines) = blocks_from name (with_line before form) lines

-- the number of what a name declares
abbrev pub number_at : Option Declared → ℕ
number_at None = 0
number_at (Some (AnArray number)) = number
number_at (Some (AParam number)) = number
number_at (Some (AValue number)) = number

-- what a use reads
abbrev pub reads : Option Declared → ℕ → Operand
reads (Some (AParam number)) distance = Parameter number
reads declaration distance = Value (number_at declaration) distance

abbrev pub operand_of : List Form → Use → Operand
operand_of block (Number value) = Constant (unwrap_or value (pos 0))
operand_of block (Plain name) = reads (declared block name) 0
operand_of block (At name distance) = reads (declared block name) (unwrap_or distance 0)

abbrev pub place_at : List Form → Subscript → Place
place_at block s = record { array = number_at (declared block s.array); offset = unwrap_or s.offset (pos 0) }

abbrev pub statement_of : List Form → StatementForm → Statement
statement_of block s = record {
  opcode = s.opcode;
  name = s.name;
  place = option_map (place_at block) s.place;
  operands = map (operand_of block) s.uses;
}

abbrev pub statement_in : Form → Option StatementForm
statement_in (StatementLine source) = Some source
statement_in _ = None

abbrev pub array_in : Form → Option Array
array_in (ArrayLine name cells) = Some (record { name = name; cells = map (λ cell. unwrap_or cell (pos 0)) cells })
array_in _ = None

abbrev pub param_in : Form → Option Param
param_in (ParamLine name value) = Some (record { name = name; value = unwrap_or value (pos 0) })
param_in _ = None

-- the initial value of this name and number that a line gives
abbrev pub value_in : List ℕ → ℕ → Form → Option ℤ
value_in name number (InitLine other n value) = if same_word name other && same_number (Some number) n then value else None
value_in name number _ = None

-- the first initial value of this name and number
abbrev pub init_value : List ℕ → ℕ → List Form → Option ℤ
init_value name number [] = None
init_value name number (form ∷ forms) = option_or (value_in name number form) (init_value name number forms)

abbrev pub init_numbers : List ℕ
init_numbers = 1 ∷ 2 ∷ 3 ∷ 4 ∷ 5 ∷ 6 ∷ 7 ∷ 8 ∷ 9 ∷ 10 ∷ 11 ∷ 12 ∷ 13 ∷ 14 ∷ 15 ∷ 16 ∷ []

-- the initial values of a statement's value, by number
abbrev pub inits_at : List Form → ℕ → Option (List ℕ) → List Initial
inits_at block statement None = []
inits_at block statement (Some name) =
    filter_map (λ number. option_map (λ value. record { statement = statement; number = number; value = value }) (init_value name number block)) init_numbers

-- the initial values of the statements from this number on
abbrev pub inits_from : List Form → ℕ → List StatementForm → List Initial
inits_from block statement [] = []
inits_from block statement (source ∷ sources) = inits_at block statement source.name ++ inits_from block (statement + 1) sources

abbrev pub out_in : List Form → Form → Option ℕ
out_in block (OutLine name) = Some (number_at (declared block name))
out_in block _ = None

-- the loop of a block without a fault
unfoldable pub loop_of : List ℕ × List Form → LoopData
loop_of block = record {
  name = block.0;
  arrays = filter_map array_in block.1;
  params = filter_map param_in block.1;
  statements = map (statement_of block.1) (filter_map statement_in block.1);
  inits = inits_from block.1 0 (filter_map statement_in block.1);
  outs = filter_map (out_in block.1) block.1;
}

-- texts

abbrev pub forms_of : List ℕ → List (Option Form)
forms_of text = map (λ line. line_form (words_of line)) (lines_of text)

-- the loops, unless there is a fault
abbrev pub first_fault : List LoopFault → List LoopData → Result (List LoopData) LoopFault
first_fault [] loops = Ok loops
first_fault (fault ∷ faults) loops = Err fault

-- what a text means; the text is limited to 1,048,576 bytes
unfoldable pub loops_in : List ℕ → Result (List LoopData) LoopFault
loops_in text =
    if nat_lt MAX_TEXT (length text) then Err (record { line = 0; kind = Limit })
    else first_fault (outside_faults 1 [] (forms_of text)) (map loop_of (blocks_of (forms_of text)))

-- the loops that a call answers, as a list
abbrev pub seen : Result (Vec LoopData Global) LoopFault → Result (List LoopData) LoopFault
seen (Ok loops) = Ok loops.items
seen (Err fault) = Err fault
