-- The forms of the lines of a loop's canonical text.
use Rattle.std.proofs.Common.{ℕ, zero, suc, List, [], ◌∷◌, ◌++◌, map, Option, Some}
use Rattle.std.specs.Option.{option_map}
use Rattle.loop_data.specs.declared.language.lists.Array.{Array}
use Rattle.loop_data.specs.declared.language.lists.Param.{Param}
use Rattle.loop_data.specs.declared.language.lists.Initial.{Initial}
use Rattle.loop_data.specs.declared.language.statement.Operand.{Operand}
use Rattle.loop_data.specs.declared.language.statement.Operand.TheVariants.{Constant, Parameter, Value}
use Rattle.loop_data.specs.declared.language.statement.Place.{Place}
use Rattle.loop_data.specs.declared.language.statement.Statement.{Statement}
use Rattle.loop_lines.specs.Forms.{Form, LoopLine, ArrayLine, ParamLine, InitLine, StatementLine, OutLine, EndLine, Use, Number, Plain, At, StatementForm, Subscript}
use Rattle.loop_data.specs.Loops.{LoopData}
use Rattle.loops.specs.Text.{array_name, param_name, value_name}

abbrev pub array_form : Array → Form
array_form a = ArrayLine a.name (map Some a.cells)

abbrev pub param_form : Param → Form
param_form p = ParamLine p.name (Some p.value)

abbrev pub init_form : LoopData → Initial → Form
init_form loop i = InitLine (value_name loop i.statement) (Some i.number) (Some i.value)

-- a use at distance 0 is written as a plain name
abbrev pub use_form : LoopData → Operand → Use
use_form loop (Constant value) = Number (Some value)
use_form loop (Parameter number) = Plain (param_name loop number)
use_form loop (Value statement zero) = Plain (value_name loop statement)
use_form loop (Value statement (suc d)) = At (value_name loop statement) (Some (suc d))

abbrev pub place_form : LoopData → Place → Subscript
place_form loop place = record { array = array_name loop place.array; offset = Some place.offset }

abbrev pub source_form : LoopData → Statement → StatementForm
source_form loop s = record { opcode = s.opcode; name = s.name; place = option_map (place_form loop) s.place; uses = map (use_form loop) s.operands }

abbrev pub statement_form : LoopData → Statement → Form
statement_form loop s = StatementLine (source_form loop s)

abbrev pub out_form : LoopData → ℕ → Form
out_form loop statement = OutLine (value_name loop statement)

-- the lines between the first and the last
abbrev pub body_forms : LoopData → List Form
body_forms loop =
    (((map array_form loop.arrays ++ map param_form loop.params) ++ map (init_form loop) loop.inits)
    ++ map (statement_form loop) loop.statements)
    ++ map (out_form loop) loop.outs

abbrev pub written_forms : LoopData → List Form
written_forms loop = LoopLine loop.name ∷ (body_forms loop ++ EndLine ∷ [])

-- lines up to an `end`
abbrev pub ended : List Form → List (Option Form)
ended forms = map Some (forms ++ EndLine ∷ [])
