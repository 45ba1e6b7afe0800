-- What `plain` writes.
use Rattle.std.specs.Prelude.{◌≡◌, ℕ, ℤ, pos, ◌+◌, ◌-◌, ◌-ℤ◌, codes, Bool, true, not, if◌then◌else◌, List, [], ◌++◌, length, map}
use Rattle.std.specs.List.{enumerate_from, filter, flat_map, range_with_len, zip}
use Rattle.std.specs.Ordering.{int_eq}
use Rattle.writing.specs.Words.{ended, told, told_signed}
use Rattle.loop_data.specs.declared.language.lists.Array.{Array}
use Rattle.loop_data.specs.Loops.{LoopData}
use Rattle.loop_data.specs.Run.{MemoryData, cell_of, opening_of, plain}
use Rattle.loop_data.specs.NamedParts.{value_name}
use Rattle.listing_printouts.specs.Last.{last_line}
use Rattle.written.specs.Written.{Written}

-- lines, each with a line feed

-- `loop NAME trip N`
abbrev pub run_line : List ℕ → ℕ → List ℕ
run_line name trip = ended ((codes "loop " ++ name) ++ told (codes " trip ") trip)

-- `ARRAY[CELL]`, without a line feed
abbrev pub cell_text : List ℕ → ℤ → List ℕ
cell_text name cell = (name ++ told_signed (codes "[") cell) ++ codes "]"

-- `ARRAY[CELL] VALUE`
abbrev pub cell_line : List ℕ → ℤ → ℤ → List ℕ
cell_line name cell value = ended (cell_text name cell ++ told_signed (codes " ") value)

-- `out NAME VALUE`
abbrev pub out_line : List ℕ → ℤ → List ℕ
out_line name value = ended ((codes "out " ++ name) ++ told_signed (codes " ") value)

-- the lines of a run

-- the cells of each array, in ascending order: -64 to 63 more than the number of iterations
abbrev pub cells_of : ℕ → List ℤ
cells_of trip = map (λ k. pos k -ℤ pos 64) (range_with_len 0 (trip + 128))

-- of them those from this place on, and before the other one, where cell -64 has place 0
abbrev pub cells_between : ℕ → ℕ → List ℤ
cells_between from end = map (λ k. pos k -ℤ pos 64) (range_with_len from (end - from))

-- a cell of the array of this number has another value after the run than before it
abbrev pub is_changed : MemoryData → MemoryData → ℕ → ℤ → Bool
is_changed opening after array cell = not (int_eq (cell_of after.arrays array cell) (cell_of opening.arrays array cell))

-- the line of a cell that had this value before and has the other now, where they differ
abbrev pub line_if_changed : List ℕ → ℤ → ℤ → ℤ → List ℕ
line_if_changed name cell kept value = if not (int_eq value kept) then cell_line name cell value else []

-- the line of a cell, where the run changed it
abbrev pub changed_line : MemoryData → MemoryData → ℕ → List ℕ → ℤ → List ℕ
changed_line opening after array name cell = line_if_changed name cell (cell_of opening.arrays array cell) (cell_of after.arrays array cell)

-- the lines of the cells of an array that a run changed, with the values after it
abbrev pub cell_lines : MemoryData → MemoryData → ℕ → List ℕ → List ℕ
cell_lines opening after array name =
    flat_map (λ cell. cell_line name cell (cell_of after.arrays array cell)) (filter (is_changed opening after array) (cells_of after.trip))

-- the lines of those of its cells that stand between two places
abbrev pub stretch_lines : MemoryData → MemoryData → ℕ → List ℕ → ℕ → ℕ → List ℕ
stretch_lines opening after array name from end = flat_map (changed_line opening after array name) (cells_between from end)

-- of all arrays of a loop, in order
abbrev pub array_lines : LoopData → MemoryData → MemoryData → List ℕ
array_lines loop opening after = flat_map (λ (a : ℕ × Array). cell_lines opening after a.0 a.1.name) (enumerate_from 0 loop.arrays)

-- the lines of the values that are live at the end, in order, changed or not
abbrev pub out_lines : LoopData → MemoryData → List ℕ
out_lines loop after = flat_map (λ o. out_line (value_name loop o.0) o.1) (zip loop.outs after.outs)

-- the lines of a run of a loop, from one memory to another
abbrev pub run_lines : LoopData → MemoryData → MemoryData → List ℕ
run_lines loop opening after = (run_line loop.name after.trip ++ array_lines loop opening after) ++ out_lines loop after

-- the lines of the plain run of a loop
unfoldable pub plain_lines : ℕ → LoopData → List ℕ
plain_lines trip loop = run_lines loop (opening_of loop trip) (plain loop (opening_of loop trip))

-- the lines of all loops, and then `loops A`
abbrev pub plain_text : ℕ → List LoopData → List ℕ
plain_text trip loops = flat_map (plain_lines trip) loops ++ last_line (length loops)

-- and that text is written
abbrev pub IsPlainText : ℕ → List LoopData → Written → Type 0
IsPlainText trip loops written = (written.all_met ≡ true) × (written.text ≡ plain_text trip loops)
