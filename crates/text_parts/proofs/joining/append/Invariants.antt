use Rattle.std.proofs.Common.{◌≡◌, ◌++◌, length}
use Rattle.std.specs.List.{flat_map}
use Rattle.std.specs.Vec.Iter.{into_iter_items, into_iter_len}
use Rattle.text_parts.proofs.joining.append.Given as goal

abbrev pub invariant-loop-part : goal.invariant-loop-part
invariant-loop-part g l = record {
  text : l.text.items ++ flat_map g.P.HasText.bytes (into_iter_items l.parts) ≡ l.initial.text.items ++ flat_map g.P.HasText.bytes (into_iter_items l.initial.parts);
  left : length (into_iter_items l.parts) ≡ into_iter_len l.parts;
}

abbrev pub decreases-loop-part : goal.decreases-loop-part
decreases-loop-part g l = into_iter_len l.parts
