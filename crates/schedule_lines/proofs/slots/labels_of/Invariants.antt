use Rattle.std.proofs.Common.{◌≡◌, map}
use Rattle.std.specs.List.{range_with_len}
use Rattle.schedule_lines.specs.SlotTexts.{label_of}
use Rattle.schedule_lines.specs.inner.Labels.{texts_in}
use Rattle.schedule_lines.proofs.slots.labels_of.Given as goal

abbrev pub invariant-loop-op : goal.invariant-loop-op
invariant-loop-op l = texts_in l.labels.items ≡ map (label_of l.schedule) (range_with_len 0 l.op)
