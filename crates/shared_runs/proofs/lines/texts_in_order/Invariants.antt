use Rattle.std.proofs.Common.{◌≡◌, ◌++◌, length}
use Rattle.std.specs.List.{flat_map}
use Rattle.std.specs.Vec.Iter.{into_iter_items, into_iter_len}
use Rattle.loop_data.specs.declared.language.lists.Array.{Array}
use Rattle.text_parts.specs.Parted.{joined_text}
use Rattle.shared_runs.specs.inner.Lines.{AreWritten, bytes_in}
use Rattle.shared_runs.proofs.lines.texts_in_order.Given as goal

abbrev pub invariant-loop-one : goal.invariant-loop-one
invariant-loop-one l = record {
  text : (e : Array) → joined_text l.texts.items ++ flat_map (bytes_in e) (into_iter_items l.lines) ≡ flat_map (bytes_in e) (into_iter_items l.initial.lines);
  written : AreWritten (into_iter_items l.lines) (into_iter_items l.left);
  lines_left : length (into_iter_items l.lines) ≡ into_iter_len l.lines;
  texts_left : length (into_iter_items l.left) ≡ into_iter_len l.left;
}

abbrev pub decreases-loop-one : goal.decreases-loop-one
decreases-loop-one l = into_iter_len l.lines
