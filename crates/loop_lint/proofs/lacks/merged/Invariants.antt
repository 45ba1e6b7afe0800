use Rattle.std.proofs.Common.{◌≡◌, ◌++◌, length}
use Rattle.std.specs.Vec.Iter.{into_iter_items, into_iter_len}
use Rattle.loop_lint.specs.Lacks.{merged}
use Rattle.loop_lint.proofs.lacks.merged.Given as goal

-- what is left comes after what is there
abbrev pub invariant-loop-fault : goal.invariant-loop-fault
invariant-loop-fault l = record {
  merges : l.lints.items ++ merged (into_iter_items l.faults) l.left ≡ merged (into_iter_items l.initial.faults) l.fn.lacks;
  long : length (into_iter_items l.faults) ≡ into_iter_len l.faults;
}

abbrev pub decreases-loop-fault : goal.decreases-loop-fault
decreases-loop-fault l = into_iter_len l.faults
