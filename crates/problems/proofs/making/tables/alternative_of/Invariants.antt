use Rattle.std.proofs.Common.{◌≡◌, map, take}
use Rattle.problems.specs.Drafts.{row_of}
use Rattle.problems.proofs.making.tables.alternative_of.Given as goal

abbrev pub invariant-loop-hold : goal.invariant-loop-hold
invariant-loop-hold l = l.rows.items ≡ map row_of (take l.hold-index l.holds)
