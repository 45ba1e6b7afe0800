-- The lines of the units that a problem uses, by the choices of the resource-constrained bound.
use Rattle.std.specs.Prelude.{◌≡◌, ℕ, zero, suc, ◌==◌, codes, List, [], ◌++◌, length}
use Rattle.std.specs.List.{flat_map, range_with_len}
use Rattle.unit_bound.specs.Units.{chosen_rows, use_of}
use Rattle.resource_bound.specs.Choices.{AreUnitChoices, rows_at}
use Rattle.resource_bound.specs.UnitLines.{full_text, times_text}
use Rattle.problems.specs.declared.draft.Draft.{Draft}
use Rattle.problems.specs.Problems.{ProblemData}
use Rattle.writing.specs.Words.{told}
use Rattle.solution_text.specs.Names.{op_name, unit_name}

-- an operation after a blank, with `*K` after it where it uses a unit K times, K above 1; nothing where it does not use it
abbrev pub user_text : Draft → ℕ → ℕ → List ℕ
user_text draft op zero = []
user_text draft op (suc n) = (codes " " ++ op_name draft op) ++ times_text (suc n)

-- the operations that use a unit by these choices, in order
abbrev pub users_text : ProblemData → List ℕ → ℕ → List ℕ
users_text problem choices unit =
    flat_map (λ op. user_text problem.draft op (use_of (rows_at problem.scheduling.operations choices op) unit)) (range_with_len 0 (length problem.scheduling.operations))

-- `unit U uses N full: NAME NAME*2 ..`, with a line feed, where N is the bound, and without ` full` where it isn't; nothing where the
-- unit is not used
abbrev pub line_with : ProblemData → List ℕ → ℕ → ℕ → List ℕ
line_with problem choices unit zero = []
line_with problem choices unit (suc n) =
    ((((codes "unit " ++ unit_name problem.draft unit) ++ told (codes " uses ") (suc n)) ++ full_text (suc n == problem.scheduling.resources)) ++ codes ":")
    ++ (users_text problem choices unit ++ codes "\n")

-- the line of a unit: how many of the chosen rows use it
abbrev pub unit_line : ProblemData → List ℕ → ℕ → List ℕ
unit_line problem choices unit = line_with problem choices unit (use_of (chosen_rows problem.scheduling.operations choices) unit)

-- the lines of all units that are used, in order, by the choices of the resource-constrained bound
pub record AreUnitLines (problem : ProblemData) (text : List ℕ) : Type 0 where
  pub choices : List ℕ
  pub are_choices : AreUnitChoices problem.scheduling.operations choices
  pub is_text : text ≡ flat_map (unit_line problem choices) (range_with_len 0 problem.draft.units)
