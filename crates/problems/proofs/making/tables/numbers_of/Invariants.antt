use Rattle.std.proofs.Common.{◌≡◌, map, take}
use Rattle.std.specs.Prelude.{slice_index}
use Rattle.problems.proofs.making.tables.numbers_of.Given as goal

abbrev pub invariant-loop-kind : goal.invariant-loop-kind
invariant-loop-kind l = l.numbers.items ≡ map (slice_index l.of_kinds) (take l.kind-index l.operations)
