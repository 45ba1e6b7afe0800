-- How faults of texts of problems are told.
use Rattle.std.specs.Prelude.{ℕ, codes, decimal, if◌then◌else◌, ◌==◌, List, ◌++◌}
use Rattle.problem_faults.specs.Texts.{expected_text}
use Rattle.problem_faults.specs.declared.refused_problems.Part.{Part}
use Rattle.problem_faults.specs.declared.refused_problems.Part.TheVariants as part
use Rattle.problem_faults.specs.declared.refused_problems.TextFault.{TextFault}
use Rattle.problem_faults.specs.declared.refused_problems.Wrong.{Wrong}
use Rattle.problem_faults.specs.declared.refused_problems.Wrong.TheVariants as wrong

abbrev pub part_text : Part → List ℕ
part_text part.Problems = codes "problem"
part_text part.Units = codes "unit"
part_text part.Files = codes "file"
part_text part.Kinds = codes "kind"
part_text part.Alternatives = codes "alternative"
part_text part.Holds = codes "hold"
part_text part.Operations = codes "operation"
part_text part.Values = codes "value"
part_text part.Reads = codes "read"
part_text part.Edges = codes "edge"

abbrev pub wrong_text : Wrong → List ℕ
wrong_text wrong.TextSize = codes "more than 16777216 bytes"
wrong_text (wrong.Form expected) = expected_text expected
wrong_text wrong.Place = codes "this line may not stand here"
wrong_text (wrong.Count what) = (codes "number of " ++ part_text what) ++ codes "s out of range"
wrong_text wrong.Range = codes "number out of range"
wrong_text wrong.Repeated = codes "there already"
wrong_text (wrong.Unknown what) = codes "unknown " ++ part_text what
wrong_text wrong.Backward = codes "goes backward within an iteration"
wrong_text wrong.NoEnd = codes "the text ends inside a problem"
wrong_text wrong.Memory = codes "out of memory"

-- the place and what is wrong; of line 0 what is wrong alone
abbrev pub fault_text : TextFault → List ℕ
fault_text fault =
    if fault.line == 0 then wrong_text fault.what
    else (((decimal fault.line ++ codes ":") ++ decimal fault.column) ++ codes ": ") ++ wrong_text fault.what
