use Rattle.std.proofs.Common.{◌≡◌, ◌-◌, ◌++◌}
use Rattle.std.specs.List.{All, flat_map, range_with_len}
use Rattle.loop_data.specs.declared.language.lists.Array.{Array}
use Rattle.std.specs.Arc.{arc_value}
use Rattle.shared_runs.specs.inner.Lines.{IsPiece, bytes_in}
use Rattle.shared_runs.specs.inner.Pieces.{piece_lines}
use Rattle.shared_runs.proofs.lines.add_left.Given as goal

abbrev pub invariant-loop-number : goal.invariant-loop-number
invariant-loop-number l = record {
  text : (e : Array) → flat_map (bytes_in e) l.lines.items ≡ flat_map (bytes_in e) l.initial.lines.items ++ flat_map (piece_lines l.innermost (arc_value l.after) e) (range_with_len l.from (l.number - l.from));
  pieces : All IsPiece l.initial.lines.items → All IsPiece l.lines.items;
}
