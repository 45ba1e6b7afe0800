use Rattle.std.proofs.Common.{◌≡◌, take}
use Rattle.problem_reader.proofs.copies.labels_of.Given as goal

abbrev pub invariant-loop-label : goal.invariant-loop-label
invariant-loop-label l = l.copies.items ≡ take l.label-index l.labels
