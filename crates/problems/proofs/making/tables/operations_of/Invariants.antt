use Rattle.std.proofs.Common.{◌≡◌, [], map, take}
use Rattle.std.specs.List.{slice_index_or}
use Rattle.problems.proofs.making.tables.operations_of.Given as goal

abbrev pub invariant-loop-number : goal.invariant-loop-number
invariant-loop-number l = l.operations.items ≡ map (λ number. slice_index_or l.tables.lists.items number []) (take l.number-index l.tables.numbers.items)
