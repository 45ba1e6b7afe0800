-- The forms that the reader keeps, beside what they stand for.
use Rattle.std.specs.Prelude.{ℕ, List, [], ◌∷◌, ◌++◌, map, Option, Some, None, option_map, option_to_list, if◌then◌else◌, codes}
use Rattle.std.specs.Borrow.{Bor}
use Rattle.machine_data.specs.Opcodes.{same_word}
use Rattle.loop_lines.specs.Cells.{cells_seen}
use Rattle.loop_lines.specs.Forms as spec
use Rattle.loop_lines.specs.declared.form.Form.{Form}
use Rattle.loop_lines.specs.declared.form.Form.TheVariants as forms
use Rattle.loop_lines.specs.declared.form.Use.{Use}
use Rattle.loop_lines.specs.declared.form.Use.TheVariants as uses
use Rattle.loop_lines.specs.declared.form.Uses.{Uses}
use Rattle.loop_lines.specs.declared.form.Subscript.{Subscript}
use Rattle.loop_lines.specs.declared.form.StatementWords.{StatementWords}

abbrev pub use_seen : Use → spec.Use
use_seen (uses.Number value) = spec.Number value
use_seen (uses.Plain name) = spec.Plain name.now
use_seen (uses.At name distance) = spec.At name.now distance

abbrev pub uses_seen : Uses → List spec.Use
uses_seen u = map use_seen (option_to_list u.first ++ (option_to_list u.second ++ option_to_list u.third))

-- a name and the number after its `@`
abbrev pub at_seen : Bor (List ℕ) × Option ℕ → spec.Use
at_seen x = spec.At x.0.now x.1

-- the guard of a `store`, as a list of the uses after the value
abbrev pub guard_seen : Option Use → List spec.Use
guard_seen guard = map use_seen (option_to_list guard)

-- the guard that words are: none, or `if` and a use
abbrev pub guard_of : List (List ℕ) → Option (List spec.Use)
guard_of [] = Some []
guard_of (word ∷ guard ∷ []) = if same_word word (codes "if") then spec.uses_of (guard ∷ []) else None
guard_of _ = None

abbrev pub subscript_seen : Subscript → spec.Subscript
subscript_seen s = record { array = s.array.now; offset = s.offset }

abbrev pub statement_seen : StatementWords → spec.StatementForm
statement_seen s = record {
  opcode = s.opcode;
  name = option_map (λ (n : Bor (List ℕ)). n.now) s.name;
  place = option_map subscript_seen s.place;
  uses = uses_seen s.uses;
}

abbrev pub form_seen : Form → spec.Form
form_seen (forms.Loop name) = spec.LoopLine name.now
form_seen (forms.Array name cells) = spec.ArrayLine name.now (cells_seen cells)
form_seen (forms.Param name value) = spec.ParamLine name.now value
form_seen (forms.Init name number value) = spec.InitLine name.now number value
form_seen (forms.Statement source) = spec.StatementLine (statement_seen source)
form_seen (forms.Out name) = spec.OutLine name.now
form_seen forms.End = spec.EndLine
form_seen forms.Malformed = spec.Malformed
