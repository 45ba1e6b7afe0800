-- What is wrong with the words of a line, by the names that lines before it declare.
use Rattle.std.specs.Prelude.{ℕ, ℤ, neg_ℤ, ◌+◌, ◌==◌, ◌&&◌, nat_lt, nat_le, int_le, not, Bool, true, false, List, [], ◌∷◌, ◌++◌, length, Option, Some, None}
use Rattle.std.specs.Option.{option_or}
use Rattle.std.specs.List.{list_any}
use Rattle.machine_data.specs.declared.limits.TheConstants.{MAX_DELAY, MAX_OFFSET, MAX_OPERATION_ALTERNATIVES, MAX_REGISTERS, MAX_ROWS, MAX_UNITS}
use Rattle.machine_data.specs.Opcodes.{same_word}
use Rattle.problem_lines.specs.Forms.{HoldForm}
use Rattle.problem_lines.specs.Lines.{LineForm}
use Rattle.loop_lines.specs.Columns.{Placed}
use Rattle.problem_lines.specs.declared.number.Number.{Number}
use Rattle.problem_lines.specs.declared.number.Integer.{Integer}
use Rattle.problem_lines.specs.declared.number.Storage.{Storage}
use Rattle.problem_lines.specs.declared.number.Storage.TheVariants.{Rotating, Unallotted}
use Rattle.problem_tables.specs.Names.{has_name}
use Rattle.problem_faults.specs.declared.refused_problems.Part.{Part}
use Rattle.problem_faults.specs.declared.refused_problems.Part.TheVariants as part
use Rattle.problem_tables.specs.declared.fault.Told.{Told}
use Rattle.problem_faults.specs.declared.refused_problems.Wrong.{Wrong}
use Rattle.problem_faults.specs.declared.refused_problems.Wrong.TheVariants as wrong

-- the first of some faults
abbrev pub first_of : List (Option Told) → Option Told
first_of [] = None
first_of (fault ∷ faults) = option_or fault (first_of faults)

abbrev pub unless : Bool → Told → Option Told
unless true fault = None
unless false fault = Some fault

abbrev pub on_word : Placed → Wrong → Told
on_word w what = record { column = w.column; width = length w.bytes; what = what }

abbrev pub on_number : Number → Wrong → Told
on_number n what = record { column = n.column; width = n.width; what = what }

-- on the keyword
abbrev pub on_line : LineForm → Wrong → Told
on_line line what = record { column = line.column; width = line.width; what = what }

-- there is room for one more of a part, told where this says
abbrev pub room_at : (Wrong → Told) → ℕ → ℕ → Part → Option Told
room_at told count most what = unless (nat_lt count most) (told (wrong.Count what))

-- the name is new among these
abbrev pub new : List (List ℕ) → Placed → Option Told
new names name = unless (not (has_name names name.bytes)) (on_word name wrong.Repeated)

-- the name is one of these
abbrev pub known : List (List ℕ) → Part → Placed → Option Told
known names what name = unless (has_name names name.bytes) (on_word name (wrong.Unknown what))

abbrev pub in_range : ℕ → ℕ → Number → Option Told
in_range least most n = unless (nat_le least n.value && nat_le n.value most) (on_number n wrong.Range)

-- machines

-- the names of a `units` line, after those of the machine so far
abbrev pub units_fault : List (List ℕ) → List Placed → Option Told
units_fault units [] = None
units_fault units (name ∷ names) = first_of (
    room_at (on_word name) (length units) MAX_UNITS part.Units
    ∷ new units name
    ∷ units_fault (units ++ name.bytes ∷ []) names
    ∷ [])

abbrev pub storage_fault : Storage → Option Told
storage_fault (Rotating registers) = in_range 1 MAX_REGISTERS registers
storage_fault Unallotted = None

-- a number that is not told is 0
abbrev pub number_or_0 : Option Number → ℕ
number_or_0 None = 0
number_or_0 (Some n) = n.value

abbrev pub same_hold : HoldForm → HoldForm → Bool
same_hold a b = same_word a.unit.bytes b.unit.bytes && (number_or_0 a.offset == number_or_0 b.offset)

abbrev pub offset_fault : ℕ → Option Number → Option Told
offset_fault most None = None
offset_fault most (Some n) = in_range 0 most n

-- the holds of an alternative, after these holds of it
abbrev pub holds_fault : List (List ℕ) → List HoldForm → List HoldForm → Option Told
holds_fault units sofar [] = None
holds_fault units sofar (hold ∷ holds) = first_of (
    room_at (on_word hold.unit) (length sofar) MAX_ROWS part.Holds
    ∷ known units part.Units hold.unit
    ∷ offset_fault MAX_OFFSET hold.offset
    ∷ unless (not (list_any (same_hold hold) sofar)) (on_word hold.unit wrong.Repeated)
    ∷ holds_fault units (sofar ++ hold ∷ []) holds
    ∷ [])

-- an alternative more, told at its first hold, is too many
abbrev pub alternative_room : ℕ → List HoldForm → Option Told
alternative_room count [] = None
alternative_room count (hold ∷ holds) = room_at (on_word hold.unit) count MAX_OPERATION_ALTERNATIVES part.Alternatives

-- the alternatives of a kind, after `count` others
abbrev pub alternatives_fault : List (List ℕ) → ℕ → List (List HoldForm) → Option Told
alternatives_fault units count [] = None
alternatives_fault units count (holds ∷ more) = first_of (
    alternative_room count holds
    ∷ holds_fault units [] holds
    ∷ alternatives_fault units (count + 1) more
    ∷ [])

-- problems

abbrev pub delay_fits : Option ℤ → Bool
delay_fits None = false
delay_fits (Some delay) = int_le (neg_ℤ MAX_DELAY) delay && int_le delay MAX_DELAY

abbrev pub delay_fault : Integer → Option Told
delay_fault delay = unless (delay_fits delay.value) (record { column = delay.column; width = delay.width; what = wrong.Range })
