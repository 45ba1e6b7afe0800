-- What the names of the lines of a block stand for, as the reader keeps it from the check to the loop.
use Rattle.std.specs.Prelude.{◌≡◌, ℕ, pos, ◌<◌, List, [], ◌∷◌, ◌++◌, length, Option, Some, None, option_map, unwrap_or, Result, Ok, Err, slice_index_or}
use Rattle.std.specs.Borrow.{Bor}
use Rattle.loop_lines.specs.Forms.{Form}
use Rattle.loop_reader.specs.Meaning.{Declared, AParam, declared, number_at}
use Rattle.loop_reader.specs.declared.lines.entry.LineEntry.{LineEntry}
use Rattle.loop_lines.specs.declared.form.Form as code
use Rattle.loop_lines.specs.declared.form.Form.TheVariants as forms
use Rattle.loop_lines.specs.declared.form.StatementWords.{StatementWords}
use Rattle.loop_lines.specs.declared.form.Subscript.{Subscript}
use Rattle.loop_lines.specs.declared.form.Use.{Use}
use Rattle.loop_lines.specs.declared.form.Use.TheVariants as uses
use Rattle.loop_lines.specs.declared.form.Uses.{Uses}
use Rattle.loop_reader.specs.declared.names.found.Targets.{Targets}
use Rattle.loop_reader.specs.declared.names.found.Target.{Target}
use Rattle.loop_reader.specs.declared.names.found.Target.TheVariants as targets
use Rattle.loop_data.specs.declared.language.statement.Operand.{Operand}
use Rattle.loop_data.specs.declared.language.statement.Operand.TheVariants.{Constant, Parameter, Value}
use Rattle.loop_data.specs.declared.language.statement.Place.{Place}
use Rattle.loop_data.specs.declared.language.statement.Statement.{Statement}

-- the fault of a line, of which else something is found
abbrev pub fault_in : {F K : Type 0} → Result F K → Option K
fault_in (Ok found) = None
fault_in (Err kind) = Some kind

-- what a name stands for that is read
abbrev pub target_at : Option Declared → Target
target_at (Some (AParam number)) = targets.Param number
target_at declaration = targets.Value (number_at declaration)

-- what the name of a use stands for, if there is one
abbrev pub target_in : List Form → Option Use → Target
target_in block (Some (uses.Plain name)) = target_at (declared block name.now)
target_in block (Some (uses.At name distance)) = target_at (declared block name.now)
target_in block _ = targets.Value 0

-- the number of a place's array
abbrev pub array_in : List Form → Option Subscript → ℕ
array_in block None = 0
array_in block (Some place) = number_at (declared block place.array.now)

-- what is found for a statement
pub record IsFoundIn (block : List Form) (source : StatementWords) (found : Targets) : Type 0 where
  pub number : found.number ≡ array_in block source.place
  pub first : found.first ≡ target_in block source.uses.first
  pub second : found.second ≡ target_in block source.uses.second
  pub third : found.third ≡ target_in block source.uses.third

-- what is found for a line
abbrev pub IsFoundFor : List Form → code.Form → Targets → Type 0
IsFoundFor block (forms.Statement source) found = IsFoundIn block source found
IsFoundFor block (forms.Out name) found = found.number ≡ number_at (declared block name.now)
IsFoundFor block _ found = Unit {0}

-- what is found for each of some lines
pub record AreFound (block : List Form) (lines : List LineEntry) (found : List Targets) : Type 0 where
  pub all : length found ≡ length lines
  pub each : (i : ℕ) (d : LineEntry) (e : Targets) → i < length lines → IsFoundFor block (slice_index_or lines i d).form (slice_index_or found i e)

-- a statement by what was found for it

abbrev pub reads_at : Target → ℕ → Operand
reads_at (targets.Param number) distance = Parameter number
reads_at (targets.Value number) distance = Value number distance

abbrev pub operand_with : Use → Target → Operand
operand_with (uses.Number value) target = Constant (unwrap_or value (pos 0))
operand_with (uses.Plain name) target = reads_at target 0
operand_with (uses.At name distance) target = reads_at target (unwrap_or distance 0)

abbrev pub operand_if : Option Use → Target → List Operand
operand_if None target = []
operand_if (Some u) target = operand_with u target ∷ []

abbrev pub operands_with : Uses → Targets → List Operand
operands_with us found = (operand_if us.first found.first ++ operand_if us.second found.second) ++ operand_if us.third found.third

abbrev pub place_with : Option Subscript → ℕ → Option Place
place_with None array = None
place_with (Some place) array = Some (record { array = array; offset = unwrap_or place.offset (pos 0) })

abbrev pub statement_with : StatementWords → Targets → Statement
statement_with source found = record {
  opcode = source.opcode;
  name = option_map (λ (n : Bor (List ℕ)). n.now) source.name;
  place = place_with source.place found.number;
  operands = operands_with source.uses found;
}

abbrev pub statement_by : code.Form → Targets → Option Statement
statement_by (forms.Statement source) found = Some (statement_with source found)
statement_by _ found = None

abbrev pub out_by : code.Form → Targets → Option ℕ
out_by (forms.Out name) found = Some found.number
out_by _ found = None
