use Rattle.std.proofs.Common.{◌≡◌, ◌++◌, take}
use Rattle.std.specs.List.{flat_map}
use Rattle.explain.specs.Reasons.{named}
use Rattle.explain.proofs.intervals.reason_texts.push_all_named.Given as goal

abbrev pub invariant-loop-op : goal.invariant-loop-op
invariant-loop-op l = l.text.items ≡ l.initial.text.items ++ flat_map (named l.innermost) (take l.op-index l.ops)
