use Rattle.std.proofs.Common.{map, take}
use Rattle.problems.specs.Drafts.{alternatives_of}
use Rattle.problems.specs.inner.Listed.{AreListed}
use Rattle.problems.proofs.making.tables.push_kinds.Given as goal

abbrev pub invariant-loop-number : goal.invariant-loop-number
invariant-loop-number l = AreListed l.lists.items l.of_kinds.items (map alternatives_of (take l.number l.kinds))
