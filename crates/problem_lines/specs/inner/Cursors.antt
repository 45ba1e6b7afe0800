-- What cursors over checked words know of them.
use Rattle.std.specs.Prelude.{Bool, false, ◌||◌, if◌then◌else◌, nat_le, List, [], ◌∷◌, length, Option, Some, None}
use Rattle.std.specs.List.{list_all}
use Rattle.problem_lines.specs.Fits.{surplus}
use Rattle.problem_lines.specs.Lines.{hold_places, is_bar, places_fault}
use Rattle.problem_lines.specs.Names.{is_hold, is_unit_name}
use Rattle.problem_lines.specs.Numbers.{number_of}
use Rattle.loop_lines.specs.Columns.{Placed}
use Rattle.problem_lines.specs.Words.{LeftWords, word_at}
use Rattle.problem_faults.specs.declared.expected.Expected.{Expected}
use Rattle.problem_faults.specs.declared.expected.Expected.TheVariants.{Number, Offset}
use Rattle.problem_lines.specs.declared.fault.LineFault.{LineFault}
use Rattle.problem_lines.specs.declared.number.Number as numbers

abbrev pub are_unit_names : List Placed → Bool
are_unit_names ws = list_all (λ (w : Placed). is_unit_name w.bytes) ws

abbrev pub are_holds : List Placed → Bool
are_holds ws = list_all (λ (w : Placed). is_bar w || is_hold w.bytes) ws

-- the fault of what is left of a `kind` line, where a hold has to stand first or a bar may
abbrev pub holds_fault : Bool → LeftWords → Option LineFault
holds_fault first left = places_fault surplus left.after (hold_places first left.words) left.words

-- `offset NUM`, where any word is left
abbrev pub offset_places : List Placed → List Expected
offset_places ws = if nat_le (length ws) 0 then [] else Offset ∷ Number ∷ []

abbrev pub offset_left : List Placed → Option numbers.Number
offset_left ws = if nat_le (length ws) 0 then None else Some (number_of (word_at ws 1))

abbrev pub starts_bar : List Placed → Bool
starts_bar [] = false
starts_bar (w ∷ ws) = is_bar w
