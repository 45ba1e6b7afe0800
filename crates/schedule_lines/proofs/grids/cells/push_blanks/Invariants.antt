use Rattle.std.proofs.Common.{◌≡◌, ◌++◌, replicate}
use Rattle.schedule_lines.proofs.grids.cells.push_blanks.Given as goal

abbrev pub invariant-loop-blank : goal.invariant-loop-blank
invariant-loop-blank l = l.text.items ≡ l.initial.text.items ++ replicate l._blank 32
