-- How far a text has been read.
use Rattle.std.specs.Prelude.{◌≡◌, ℕ, ◌+◌, List, [], ◌∷◌, Option, Result, Ok, Err}
use Rattle.problem_lines.specs.SolutionLines.{SolutionLineForm}
use Rattle.problem_lines.specs.declared.fault.LineFault.{LineFault}
use Rattle.solution_reader.specs.Meaning.{lines_from, AnswersFault}
use Rattle.solution_reader.specs.Sofar.{TextLine}
use Rattle.problem_faults.specs.declared.refused_solutions.SolutionFault.{SolutionFault}
use Rattle.solution_reader.specs.inner.Steps.{SofarData, IsSofar}

-- lines from a number on after others come to what these lines from this number on do, where so much has been said
pub record GoesOn (number : ℕ) (before : List TextLine) (forms : List (Result (Option SolutionLineForm) LineFault)) (next : ℕ) (sofar : SofarData) (rest : List (Result (Option SolutionLineForm) LineFault)) : Type 0 where
  pub after : List TextLine
  pub is : IsSofar after sofar
  pub same : lines_from number before forms ≡ lines_from next after rest

-- the answer for one line, whatever follows it
abbrev pub AnswersLine : ℕ → List TextLine → Result (Option SolutionLineForm) LineFault → SofarData → Result (Unit {0}) SolutionFault → List (Result (Option SolutionLineForm) LineFault) → Type 0
AnswersLine number before form sofar (Ok done) rest = GoesOn number before (form ∷ rest) (number + 1) sofar rest
AnswersLine number before form sofar (Err fault) rest = AnswersFault fault.what fault (lines_from number before (form ∷ rest))

-- the answer for all lines
abbrev pub AnswersLines : List TextLine → List (Result (Option SolutionLineForm) LineFault) → SofarData → Result ℕ SolutionFault → Type 0
AnswersLines before forms sofar (Ok next) = GoesOn 1 before forms next sofar []
AnswersLines before forms sofar (Err fault) = AnswersFault fault.what fault (lines_from 1 before forms)
