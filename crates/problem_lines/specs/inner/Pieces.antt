-- Words before they are judged.
use Rattle.std.specs.Prelude.{Option, Some, None, Result, Ok, Err}
use Rattle.loop_lines.specs.Columns.{Placed}
use Rattle.problem_lines.specs.declared.fault.LineFault.{LineFault}
use Rattle.problem_lines.specs.declared.piece.Piece.{Piece}

abbrev pub placed : Piece → Placed
placed p = record { bytes = p.bytes.now; column = p.column }

-- the fault that a call answers
abbrev pub fault_seen : {A : Type 0} → Result A LineFault → Option LineFault
fault_seen (Ok value) = None
fault_seen (Err fault) = Some fault
