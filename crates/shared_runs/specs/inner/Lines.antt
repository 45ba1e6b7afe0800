-- The lines of all that workers made of loops, some of them still to be written.
use Rattle.std.specs.Prelude.{◌≡◌, ℕ, ◌*◌, ◌<◌, List, [], Vec, length}
use Rattle.std.specs.Arc.{arc_value}
use Rattle.std.specs.Global.{Global}
use Rattle.std.specs.List.{slice_index_or}
use Rattle.loop_data.specs.declared.language.lists.Array.{Array}
use Rattle.loop_data.specs.Run.{HasShapeOf}
use Rattle.shared_runs.specs.declared.lines.Lines.{Lines}
use Rattle.shared_runs.specs.declared.lines.Lines.TheVariants.{Written, Left}
use Rattle.shared_runs.specs.inner.Pieces.{piece_lines}

-- the bytes of lines
abbrev pub bytes_in : Array → Lines → List ℕ
bytes_in e (Written text) = text.items
bytes_in e (Left loop after number) = piece_lines loop.now (arc_value after) e number

-- .. as far as they are still to be written
abbrev pub bytes_left : Array → Lines → List ℕ
bytes_left e (Written text) = []
bytes_left e (Left loop after number) = piece_lines loop.now (arc_value after) e number

-- a piece that is still to be written is one of its run
abbrev pub IsPiece : Lines → Type 0
IsPiece (Written text) = Unit {0}
IsPiece (Left loop after number) = HasShapeOf loop.now (arc_value after) × (number < length loop.now.arrays * 8)

-- what was still to be written of each of these lines, as texts
pub record AreWritten (lines : List Lines) (texts : List (Vec ℕ Global)) : Type 0 where
  pub many : length texts ≡ length lines
  pub each : (k : ℕ) (t : Vec ℕ Global) (l : Lines) (e : Array) → k < length lines → (slice_index_or texts k t).items ≡ bytes_left e (slice_index_or lines k l)
