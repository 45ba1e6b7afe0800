-- The cells of an array line as the reader keeps them.
use Rattle.std.specs.Prelude.{ℕ, ℤ, Bool, ◌&&◌, ◌||◌, not, if◌then◌else◌, List, [], length, nat_lt, Option, is_none, unwrap_or}
use Rattle.machine_data.specs.declared.limits.TheConstants.{MAX_CELLS}
use Rattle.std.specs.List.{list_any}
use Rattle.loop_lines.specs.Forms.{ints_of}
use Rattle.loop_lines.specs.Words.{words_of}
use Rattle.loop_lines.specs.declared.cells.CellWords.{CellWords}

-- some does not fit 64 bits, or there are too many
abbrev pub are_wide : List (Option ℤ) → Bool
are_wide cells = list_any is_none cells || nat_lt MAX_CELLS (length cells)

-- the integers that a rest of a line writes
abbrev pub ints_in : List ℕ → List (Option ℤ)
ints_in rest = unwrap_or (ints_of (words_of rest)) []

-- the cells, of which there are none where they are wide without the mark
abbrev pub cells_seen : CellWords → List (Option ℤ)
cells_seen c = if not c.wide && are_wide (ints_in c.words.now) then [] else ints_in c.words.now
