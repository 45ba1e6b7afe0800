-- Where the words of a line stand.
use Rattle.std.specs.Prelude.{ℕ, zero, suc, List, [], ◌∷◌, length}
use Rattle.loop_lines.specs.Columns.{Placed, column_after}
use Rattle.loop_lint.specs.declared.spots.Spot.{Spot}

-- where word `number` stands, counted from 0. Where there is none, the column after the last byte of the last one, and no byte
abbrev pub spot_from : ℕ → List Placed → ℕ → Spot
spot_from column [] number = record { column = column; width = 0 }
spot_from column (w ∷ ws) zero = record { column = w.column; width = length w.bytes }
spot_from column (w ∷ ws) (suc number) = spot_from (column_after w) ws number

abbrev pub spot_at : List Placed → ℕ → Spot
spot_at words number = spot_from 1 words number
