use Rattle.std.proofs.Common.{◌≡◌, take}
use Rattle.machine_variants.specs.Variants.{moved}
use Rattle.machine_variants.proofs.doubling.moved_rows.Given as goal

abbrev pub invariant-loop-row : goal.invariant-loop-row
invariant-loop-row l = l.list.items ≡ moved l.unit l.new (take l.row-index l.rows)
