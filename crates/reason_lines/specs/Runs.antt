-- Lines for neighbouring intervals that fail for one reason.
use Rattle.std.specs.Prelude.{ℕ, zero, suc, ◌+◌, ◌==◌, ◌||◌, not, Bool, if◌then◌else◌, codes, List, [], ◌++◌, length}
use Rattle.std.specs.List.{flat_map, range_with_len, slice_index_or}
use Rattle.std.specs.Str.{bytes_eq}
use Rattle.writing.specs.Words.{told}

-- the interval of this number is the last one of its run: there is no next one, or another reason is told of the next
abbrev pub ends_run : List (List ℕ) → ℕ → Bool
ends_run whys number = (number + 1 == length whys) || not (bytes_eq (slice_index_or whys number []) (slice_index_or whys (number + 1) []))

-- the number of the first interval of its run
abbrev pub run_start : List (List ℕ) → ℕ → ℕ
run_start whys zero = zero
run_start whys (suc number) = if ends_run whys number then suc number else run_start whys number

-- ` to J`, where the run is of more than one interval
abbrev pub last_text : ℕ → ℕ → List ℕ
last_text first last = if first == last then [] else told (codes " to ") last

-- `try I` or `try I to J`, and the reason, with a line feed
abbrev pub run_line : ℕ → ℕ → List ℕ → List ℕ
run_line first last why = ((told (codes "try ") first ++ last_text first last) ++ why) ++ codes "\n"

-- the line of the run that the interval of this number ends, if it ends one
abbrev pub run_at : ℕ → List (List ℕ) → ℕ → List ℕ
run_at least whys number = if ends_run whys number then run_line (least + run_start whys number) (least + number) (slice_index_or whys number []) else []

-- a line for each run of intervals, from the least one on, where a reason is told of each interval
abbrev pub runs_text : ℕ → List (List ℕ) → List ℕ
runs_text least whys = flat_map (run_at least whys) (range_with_len 0 (length whys))
