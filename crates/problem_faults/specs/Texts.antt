-- How it is told what has to stand in a line.
use Rattle.std.specs.Prelude.{ℕ, codes, List}
use Rattle.problem_faults.specs.declared.expected.Expected.{Expected}
use Rattle.problem_faults.specs.declared.expected.Expected.TheVariants as expected

abbrev pub expected_text : Expected → List ℕ
expected_text expected.Keyword = codes "expected machine, units, file, kind, problem, op, value, read, edge or end"
expected_text expected.Name = codes "expected a name of 1 to 64 printable characters"
expected_text expected.UnitName = codes "expected a name of 1 to 64 printable characters without @ and |"
expected_text expected.Number = codes "expected a number"
expected_text expected.Integer = codes "expected an integer"
expected_text expected.Hold = codes "expected UNIT or UNIT@NUMBER"
expected_text expected.Latency = codes "expected latency"
expected_text expected.Storage = codes "expected rotating or unallotted"
expected_text expected.Bar = codes "expected |"
expected_text expected.Of = codes "expected of"
expected_text expected.Lands = codes "expected lands"
expected_text expected.In = codes "expected in"
expected_text expected.Distance = codes "expected distance"
expected_text expected.Offset = codes "expected offset"
expected_text expected.Delay = codes "expected delay"
expected_text expected.SolutionKeyword = codes "expected solution, op, value or end"
expected_text expected.Ii = codes "expected ii"
expected_text expected.Time = codes "expected time"
expected_text expected.By = codes "expected by"
expected_text expected.NumberWord = codes "expected number"
expected_text expected.Nothing = codes "nothing may follow here"
