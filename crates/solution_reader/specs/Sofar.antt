-- What the lines of a text of solutions have said so far: look-ups over the lines before a line, none of which has a fault.
use Rattle.std.specs.Prelude.{ℕ, Bool, true, false, if◌then◌else◌, List, [], ◌∷◌, ◌++◌, Option, Some, None}
use Rattle.std.specs.List.{filter_map}
use Rattle.problem_lines.specs.SolutionForms.{SolutionForm, SolutionBegins, OpTime, ValueNumber, SolutionEnds}
use Rattle.solution_reader.specs.Data.{HeadData, OpData, ValueData, SolutionData}

-- a line that says something, with its number in the text, from 1
pub record TextLine : Type 0 where
  pub number : ℕ
  pub form : SolutionForm

abbrev pub begins : SolutionForm → Bool
begins (SolutionBegins name ii) = true
begins form = false

-- the lines after the last one that begins a solution; after these where there is none
abbrev pub since : List TextLine → List TextLine → List TextLine
since sofar [] = sofar
since sofar (line ∷ lines) = if begins line.form then since [] lines else since (sofar ++ line ∷ []) lines

-- the solution under way

-- how the solution under way begins after one more line, if there is one
abbrev pub head_after : Option HeadData → ℕ → SolutionForm → Option HeadData
head_after head number (SolutionBegins name ii) = Some (record { name = name; line = number; ii = ii.value })
head_after head number SolutionEnds = None
head_after head number form = head

abbrev pub head_from : Option HeadData → List TextLine → Option HeadData
head_from head [] = head
head_from head (line ∷ lines) = head_from (head_after head line.number line.form) lines

-- how the solution under way begins: it is that of the last line that begins or ends one, if that begins one
abbrev pub head_in : List TextLine → Option HeadData
head_in before = head_from None before

abbrev pub op_told : ℕ → SolutionForm → Option OpData
op_told number (OpTime name time alternative) = Some (record { name = name; line = number; time = time.value; alternative = alternative.value })
op_told number form = None

abbrev pub value_told : ℕ → SolutionForm → Option ValueData
value_told number (ValueNumber name told) = Some (record { name = name; line = number; number = told.value })
value_told number form = None

-- what the lines after the last one that begins a solution tell
abbrev pub ops_in : List TextLine → List OpData
ops_in before = filter_map (λ (line : TextLine). op_told line.number line.form) (since [] before)

abbrev pub values_in : List TextLine → List ValueData
values_in before = filter_map (λ (line : TextLine). value_told line.number line.form) (since [] before)

-- the solutions that have ended

abbrev pub solution_with : List OpData → List ValueData → Option HeadData → List SolutionData
solution_with ops values None = []
solution_with ops values (Some head) = record { head = head; ops = ops; values = values } ∷ []

-- the solution that a line after these ends
abbrev pub ended_by : List TextLine → SolutionForm → List SolutionData
ended_by before SolutionEnds = solution_with (ops_in before) (values_in before) (head_in before)
ended_by before form = []

-- those that the lines after these end
abbrev pub solutions_from : List TextLine → List TextLine → List SolutionData
solutions_from before [] = []
solutions_from before (line ∷ lines) = ended_by before line.form ++ solutions_from (before ++ line ∷ []) lines

abbrev pub solutions_in : List TextLine → List SolutionData
solutions_in before = solutions_from [] before
