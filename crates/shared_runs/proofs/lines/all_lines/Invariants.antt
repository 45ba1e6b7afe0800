use Rattle.std.proofs.Common.{◌≡◌, ◌++◌, length}
use Rattle.std.specs.List.{All, flat_map}
use Rattle.std.specs.Vec.Iter.{into_iter_items, into_iter_len}
use Rattle.loop_data.specs.declared.language.lists.Array.{Array}
use Rattle.loop_data.specs.Loops.{LoopData}
use Rattle.shared_runs.specs.inner.Lines.{IsPiece, bytes_in}
use Rattle.shared_runs.specs.inner.Made.{Fits, bytes_of}
use Rattle.shared_runs.proofs.lines.all_lines.Given as goal

abbrev pub invariant-loop-one : goal.invariant-loop-one
invariant-loop-one l = record {
  text : (d : LoopData) (e : Array) → flat_map (bytes_in e) l.lines.items ++ flat_map (bytes_of l.loops d) (into_iter_items l.made) ≡ flat_map (bytes_of l.loops d) (into_iter_items l.initial.made);
  pieces : All IsPiece l.lines.items;
  fit : All (Fits l.loops) (into_iter_items l.made);
  left : length (into_iter_items l.made) ≡ into_iter_len l.made;
}

abbrev pub decreases-loop-one : goal.decreases-loop-one
decreases-loop-one l = into_iter_len l.made
