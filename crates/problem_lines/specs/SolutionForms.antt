-- What a line of a text of solutions says.
use Rattle.loop_lines.specs.Columns.{Placed}
use Rattle.problem_lines.specs.declared.number.Number.{Number}

pub data SolutionForm : Type 0 where
  -- its name and its interval
  SolutionBegins : Placed → Number → SolutionForm
  -- the operation, its issue time and its alternative
  OpTime : Placed → Number → Number → SolutionForm
  -- the value and its number
  ValueNumber : Placed → Number → SolutionForm
  SolutionEnds : SolutionForm
