-- How faults of lines are told.
use Rattle.std.specs.Prelude.{ℕ, codes, decimal, List, ◌++◌}
use Rattle.problem_faults.specs.Texts.{expected_text}
use Rattle.problem_lines.specs.declared.fault.LineFault.{LineFault}

abbrev pub fault_text : LineFault → List ℕ
fault_text fault = ((codes "column " ++ decimal fault.column) ++ codes ": ") ++ expected_text fault.what
