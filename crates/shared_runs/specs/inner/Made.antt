-- What workers make of loops for `plain`.
use Rattle.std.specs.Prelude.{◌≡◌, ◌<◌, ℕ, List, length}
use Rattle.std.specs.List.{slice_index_or}
use Rattle.loop_data.specs.Loops.{LoopData}
use Rattle.loop_data.specs.Run.{HasShapeOf, opening_of}
use Rattle.lines_of_runs.specs.Plain.{plain_lines, run_lines}
use Rattle.shared_runs.specs.inner.Pieces.{ArePieces}
use Rattle.shared_runs.specs.declared.made.Made.{Made}
use Rattle.shared_runs.specs.declared.made.Made.TheVariants.{After, Text}

-- the lines that it stands for
abbrev pub bytes_of : List LoopData → LoopData → Made → List ℕ
bytes_of loops d (After number memory begun) =
    run_lines (slice_index_or loops number d) (opening_of (slice_index_or loops number d) memory.trip) memory
bytes_of loops d (Text text) = text.items

-- a memory is that of a loop, and pieces are those of its lines
abbrev pub Fits : List LoopData → Made → Type 0
Fits loops (After number memory begun) =
    (number < length loops) × ((d : LoopData) → HasShapeOf (slice_index_or loops number d) memory)
    × ((d : LoopData) → ArePieces (slice_index_or loops number d) memory begun.items)
Fits loops (Text text) = Unit {0}

-- it was made of the loop of this number
pub record IsMadeOf (trip : ℕ) (loops : List LoopData) (number : ℕ) (made : Made) : Type 0 where
  pub fits : Fits loops made
  pub lines : (d e : LoopData) → bytes_of loops d made ≡ plain_lines trip (slice_index_or loops number e)

-- .. of all loops, in order
pub record AreMadeOf (trip : ℕ) (loops : List LoopData) (made : List Made) : Type 0 where
  pub many : length made ≡ length loops
  pub each : (k : ℕ) (d : Made) → k < length loops → IsMadeOf trip loops k (slice_index_or made k d)
