use Rattle.std.proofs.Common.{◌≡◌, ◌++◌, length}
use Rattle.std.specs.List.{All, flat_map}
use Rattle.std.specs.Vec.Iter.{into_iter_items, into_iter_len}
use Rattle.loop_data.specs.declared.language.lists.Array.{Array}
use Rattle.text_parts.specs.Parted.{joined_text}
use Rattle.shared_runs.specs.inner.Lines.{IsPiece, bytes_in}
use Rattle.shared_runs.proofs.lines.add_begun.Given as goal

abbrev pub invariant-loop-text : goal.invariant-loop-text
invariant-loop-text l = record {
  text : (e : Array) → flat_map (bytes_in e) l.lines.items ++ joined_text (into_iter_items l.begun) ≡ flat_map (bytes_in e) l.initial.lines.items ++ joined_text (into_iter_items l.initial.begun);
  pieces : All IsPiece l.initial.lines.items → All IsPiece l.lines.items;
  left : length (into_iter_items l.begun) ≡ into_iter_len l.begun;
}

abbrev pub decreases-loop-text : goal.decreases-loop-text
decreases-loop-text l = into_iter_len l.begun
