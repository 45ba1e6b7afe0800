-- Where a byte of a text stands, and where the words of its keys do.
use Rattle.std.specs.Prelude.{ℕ, ◌+◌, ◌==◌, Bool, codes, List, length, Option, Some, None, take, reverse, count_by}
use Rattle.std.specs.List.{before_first}
use Rattle.reader_faults.specs.declared.machine.MachineFault.{MachineFault}
use Rattle.machine_lint.specs.Words.{inside_from, key_from, table_from}
use Rattle.machine_lint.specs.declared.place.Place.{Place}
use Rattle.machine_lint.specs.declared.place.MachineLint.{MachineLint}
use Rattle.machine_lint.specs.declared.spots.Found.TheVariants.{Nothing}
use Rattle.machine_lint.specs.declared.spots.Spot.{Spot}
use Rattle.machine_lint.specs.declared.spots.Spot.TheVariants as spot

abbrev pub is_feed : ℕ → Bool
is_feed byte = byte == 10

-- what stands on the last line of a text, from right to left
abbrev pub last_line : List ℕ → List ℕ
last_line text = before_first is_feed (reverse text)

-- the place after a text
abbrev pub place_after : List ℕ → Place
place_after text = record { line = 1 + count_by is_feed text; column = 1 + length (last_line text) }

-- the place of the byte with an offset, or of the end of a text
abbrev pub place_at : List ℕ → ℕ → Place
place_at text offset = place_after (take offset text)

-- the offset of the word of a key
abbrev pub offset_of : List ℕ → Spot → Option ℕ
offset_of text spot.Whole = None
offset_of text (spot.TopKey key) = key_from text key 0
offset_of text spot.Units = key_from text (codes "units") 0
offset_of text (spot.Unit n) = key_from text (codes "units") 0
offset_of text spot.Registers = key_from text (codes "registers") 0
offset_of text spot.Ops = key_from text (codes "ops") 0
offset_of text (spot.Table word) = table_from text word
offset_of text (spot.TableKey word key) = inside_from text word key
offset_of text (spot.Latency word) = inside_from text word (codes "latency")
offset_of text (spot.Alternatives word) = inside_from text word (codes "alts")
offset_of text (spot.Alternative word n) = inside_from text word (codes "alts")
offset_of text (spot.Row word n m) = inside_from text word (codes "alts")

-- the place of a byte, if there is one
abbrev pub place_or : List ℕ → Option ℕ → Place
place_or text None = record { line = 0; column = 0 }
place_or text (Some offset) = place_at text offset

-- the place of the word of a key
abbrev pub place_of : List ℕ → Spot → Place
place_of text spot = place_or text (offset_of text spot)

-- a fault of the text as a whole, at a byte of it
abbrev pub lint_at : List ℕ → MachineFault → ℕ → MachineLint
lint_at text fault offset =
    record { line = (place_at text offset).line; column = (place_at text offset).column; spot = spot.Whole; found = Nothing; fault = fault }

-- a fault of the text as a whole that has no place in it
abbrev pub nowhere : MachineFault → MachineLint
nowhere fault = record { line = 0; column = 0; spot = spot.Whole; found = Nothing; fault = fault }
