-- What the lines so far have said, taken in line by line.
use Rattle.std.specs.Prelude.{◌≡◌, ℕ, is_none, is_some, Bool, true, false, List, [], ◌∷◌, ◌++◌, Option, Some, None, option_map, option_to_list}
use Rattle.machine_data.specs.declared.limits.TheConstants.{MAX_STATEMENTS, MAX_VALUES}
use Rattle.problem_lines.specs.SolutionForms.{SolutionForm, SolutionBegins, OpTime, ValueNumber, SolutionEnds}
use Rattle.problem_lines.specs.SolutionLines.{SolutionLineForm}
use Rattle.problems.specs.declared.limits.TheConstants.{MAX_PROBLEMS}
use Rattle.solution_reader.specs.Data.{HeadData, OpData, ValueData, SolutionData, op_names, value_names, solution_names}
use Rattle.solution_reader.specs.Faults.{first_of, unless, on_line, one_more}
use Rattle.solution_reader.specs.Sofar.{TextLine, head_in, ops_in, values_in, solutions_in, solution_with}
use Rattle.problem_faults.specs.declared.refused_solutions.Part.TheVariants as part
use Rattle.solution_reader.specs.declared.fault.Told.{Told}
use Rattle.problem_faults.specs.declared.refused_solutions.Wrong.{Wrong}
use Rattle.problem_faults.specs.declared.refused_solutions.Wrong.TheVariants as wrong

-- the solutions that have ended, and how the one under way begins
pub record BegunData : Type 0 where
  pub ended : List SolutionData
  pub head : Option HeadData

-- the names of both
abbrev pub begun_names : BegunData → List (List ℕ)
begun_names begun = solution_names begun.ended ++ option_to_list (option_map (λ (head : HeadData). head.name.bytes) begun.head)

pub record SofarData : Type 0 where
  pub begun : BegunData
  pub ops : List OpData
  pub values : List ValueData

abbrev pub nothing : SofarData
nothing = record { begun = record { ended = []; head = None }; ops = []; values = [] }

abbrev pub may_stand : Option HeadData → SolutionForm → Bool
may_stand head (SolutionBegins name ii) = is_none head
may_stand head form = is_some head

abbrev pub say_fault : SofarData → (Wrong → Told) → SolutionForm → Option Told
say_fault sofar told (SolutionBegins name ii) = one_more told (solution_names sofar.begun.ended) MAX_PROBLEMS part.Solutions name
say_fault sofar told (OpTime name time alternative) = one_more told (op_names sofar.ops) MAX_STATEMENTS part.Operations name
say_fault sofar told (ValueNumber name number) = one_more told (value_names sofar.values) MAX_VALUES part.Values name
say_fault sofar told SolutionEnds = None

abbrev pub step_fault : SofarData → SolutionLineForm → Option Told
step_fault sofar line = first_of (
    unless (may_stand sofar.begun.head line.form) (on_line line wrong.Place)
    ∷ say_fault sofar (on_line line) line.form
    ∷ [])

-- with one more line
abbrev pub with_form : SofarData → ℕ → SolutionForm → SofarData
with_form sofar number (SolutionBegins name ii) = record {
  begun = record { ended = sofar.begun.ended; head = Some (record { name = name; line = number; ii = ii.value }) };
  ops = sofar.ops;
  values = sofar.values;
}
with_form sofar number (OpTime name time alternative) =
    record sofar { ops = sofar.ops ++ record { name = name; line = number; time = time.value; alternative = alternative.value } ∷ [] }
with_form sofar number (ValueNumber name told) = record sofar { values = sofar.values ++ record { name = name; line = number; number = told.value } ∷ [] }
with_form sofar number SolutionEnds = record {
  begun = record { ended = sofar.begun.ended ++ solution_with sofar.ops sofar.values sofar.begun.head; head = None };
  ops = [];
  values = [];
}

-- these lines have said so
pub record IsSofar (before : List TextLine) (sofar : SofarData) : Type 0 where
  pub ended : sofar.begun.ended ≡ solutions_in before
  pub head : sofar.begun.head ≡ head_in before
  pub ops : is_some (head_in before) ≡ true → sofar.ops ≡ ops_in before
  pub values : is_some (head_in before) ≡ true → sofar.values ≡ values_in before
  pub no_ops : is_some (head_in before) ≡ false → sofar.ops ≡ []
  pub no_values : is_some (head_in before) ≡ false → sofar.values ≡ []
