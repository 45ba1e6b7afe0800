use Rattle.std.proofs.Common.{◌≡◌, map, take}
use Rattle.problem_tables.specs.Data.{kind_seen}
use Rattle.problem_reader.proofs.copies.kinds_of.Given as goal

abbrev pub invariant-loop-kind : goal.invariant-loop-kind
invariant-loop-kind l = map kind_seen l.copies.items ≡ map kind_seen (take l.kind-index l.kinds)
