-- Words as they are read.
use Rattle.loop_lines.specs.Columns.{Placed}
use Rattle.loop_lint.specs.declared.scan.Piece.{Piece}

abbrev pub placed : Piece → Placed
placed p = record { bytes = p.bytes.now; column = p.column }
