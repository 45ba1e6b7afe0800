use Rattle.std.proofs.Common.{◌≡◌, ◌≤◌, ◌-◌, length, replicate, None}
use Rattle.machine.proofs.read.tables.no_tables.Given as goal

abbrev pub invariant-loop-tables : goal.invariant-loop-tables
invariant-loop-tables l = (l.tables.items ≡ replicate (length l.tables.items) None) × (length l.tables.items ≤ 13)

abbrev pub decreases-loop-tables : goal.decreases-loop-tables
decreases-loop-tables l = 13 - length l.tables.items
