-- How faults of a text of solutions are told.
use Rattle.std.specs.Prelude.{ℕ, codes, decimal, if◌then◌else◌, ◌==◌, List, ◌++◌}
use Rattle.problem_faults.specs.Texts.{expected_text}
use Rattle.problem_faults.specs.declared.refused_solutions.Part.{Part}
use Rattle.problem_faults.specs.declared.refused_solutions.Part.TheVariants as part
use Rattle.problem_faults.specs.declared.refused_solutions.SolutionFault.{SolutionFault}
use Rattle.problem_faults.specs.declared.refused_solutions.Wrong.{Wrong}
use Rattle.problem_faults.specs.declared.refused_solutions.Wrong.TheVariants as wrong

abbrev pub part_text : Part → List ℕ
part_text part.Solutions = codes "solution"
part_text part.Operations = codes "operation"
part_text part.Values = codes "value"

-- what the name of a part has to be that of
abbrev pub owner_text : Part → List ℕ
owner_text part.Solutions = codes "problem"
owner_text part.Operations = codes "operation"
owner_text part.Values = codes "value"

abbrev pub wrong_text : Wrong → List ℕ
wrong_text wrong.TextSize = codes "more than 16777216 bytes"
wrong_text (wrong.Form expected) = expected_text expected
wrong_text wrong.Place = codes "this line may not stand here"
wrong_text (wrong.Count what) = (codes "number of " ++ part_text what) ++ codes "s out of range"
wrong_text wrong.Repeated = codes "there already"
wrong_text (wrong.Unknown what) = codes "unknown " ++ owner_text what
wrong_text wrong.NoEnd = codes "the text ends inside a solution"
wrong_text wrong.Memory = codes "out of memory"

-- the place and what is wrong; of line 0 what is wrong alone
abbrev pub fault_text : SolutionFault → List ℕ
fault_text fault =
    if fault.line == 0 then wrong_text fault.what
    else (((decimal fault.line ++ codes ":") ++ decimal fault.column) ++ codes ": ") ++ wrong_text fault.what
