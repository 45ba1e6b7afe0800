-- What one line adds in a pass over a block.
use Rattle.std.specs.Prelude.{◌≡◌, ℕ, ◌+◌, Bool, true, false, List, ◌∷◌, ◌++◌, Option, Some}
use Rattle.loop_lines.specs.Forms.{Form, EndLine, line_form}
use Rattle.loop_lines.specs.Words.{words_of}
use Rattle.loop_reader.specs.Meaning.{whole}
use Rattle.loop_lint.specs.Lints.{TextLine, forms_in, inside_lints, line_read, outside_lints}
use Rattle.loop_lint.specs.declared.block.Table.{Table}
use Rattle.loop_lint.specs.declared.fault.LintFault.{LintFault}
use Rattle.loop_lint.specs.inner.Tables.{IsTable}

abbrev pub is_end : Form → Bool
is_end EndLine = true
is_end form = false

-- a line was taken in: the block ends with it, or goes on after it with these lines
abbrev pub Gathers : List Form → List ℕ → Table → Bool → Type 0
Gathers before line new true = IsTable before new × (line_form (words_of line) ≡ Some EndLine)
Gathers before line new false = (more : List Form) × IsTable more new × ((lines : List (Option Form)) → whole before (line_form (words_of line) ∷ lines) ≡ whole more lines)

-- a line of a block was told of: the block ends with it, or goes on
abbrev pub Tells : ℕ → List Form → List ℕ → Table → List LintFault → List LintFault → List Form → Bool → Type 0
Tells number before line new old faults block true =
    (names : List (List ℕ)) (lines : List TextLine) → whole before (line_form (words_of line) ∷ forms_in lines) ≡ block
    → old ++ inside_lints number names before (line_read line ∷ lines) ≡ faults ++ outside_lints (number + 1) names lines
Tells number before line new old faults block false =
    (more : List Form) × IsTable more new
    × ((names : List (List ℕ)) (lines : List TextLine) → whole before (line_form (words_of line) ∷ forms_in lines) ≡ block
    → (old ++ inside_lints number names before (line_read line ∷ lines) ≡ faults ++ inside_lints (number + 1) names more lines)
    × (whole more (forms_in lines) ≡ block))
