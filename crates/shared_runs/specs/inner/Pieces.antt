-- The lines of the arrays of a run in pieces, eight for each array.
use Rattle.std.specs.Prelude.{◌≡◌, ℕ, ◌+◌, ◌*◌, ◌/◌, ◌%◌, ◌<◌, ◌≤◌, List, Vec, length, min}
use Rattle.std.specs.Global.{Global}
use Rattle.std.specs.List.{slice_index_or}
use Rattle.loop_data.specs.declared.language.lists.Array.{Array}
use Rattle.loop_data.specs.Loops.{LoopData}
use Rattle.loop_data.specs.Run.{MemoryData, opening_of}
use Rattle.lines_of_runs.specs.Plain.{stretch_lines}

-- at which place in the list of an array's cells a piece begins
abbrev pub place_of : ℕ → ℕ → ℕ
place_of trip piece = min (trip + 128) (piece * ((trip + 128) / 8 + 1))

-- the lines of a piece of an array
abbrev pub lines_of_piece : LoopData → MemoryData → Array → ℕ → ℕ → List ℕ
lines_of_piece loop after d array piece =
    stretch_lines (opening_of loop after.trip) after array (slice_index_or loop.arrays array d).name (place_of after.trip piece) (place_of after.trip (piece + 1))

-- of the piece of this number, where those of the first array come first
abbrev pub piece_lines : LoopData → MemoryData → Array → ℕ → List ℕ
piece_lines loop after d number = lines_of_piece loop after d (number / 8) (number % 8)

-- texts are those of the first pieces, one after another
pub record ArePieces (loop : LoopData) (after : MemoryData) (pieces : List (Vec ℕ Global)) : Type 0 where
  pub few : length pieces ≤ length loop.arrays * 8
  pub each : (k : ℕ) (t : Vec ℕ Global) (d : Array) → k < length pieces → (slice_index_or pieces k t).items ≡ piece_lines loop after d k
