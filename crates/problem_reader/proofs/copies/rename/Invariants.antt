use Rattle.std.proofs.Common.{◌≡◌, take}
use Rattle.problem_reader.proofs.copies.rename.Given as goal

abbrev pub invariant-loop-label : goal.invariant-loop-label
invariant-loop-label l = l.names.items ≡ take l.label-index l.labels
