-- The form of a line by its words, or its first fault.
--
-- After each keyword the places are listed from left to right; what is read of the words is said beside them. A line of words that
-- do not fit their places has the fault of the first that does not.
use Rattle.std.specs.Prelude.{ℕ, codes, nat_le, Bool, true, false, if◌then◌else◌, List, [], ◌∷◌, drop, length, map, Option, Some, None, Result, Ok, Err}
use Rattle.std.specs.Option.{option_or}
use Rattle.machine_data.specs.Opcodes.{same_word}
use Rattle.problem_lines.specs.Fits.{fault_on, misfit, surplus}
use Rattle.problem_lines.specs.Forms.{Form, MachineLine, UnitsLine, FileLine, KindLine, ProblemLine, OpLine, ValueLine, ReadLine, EdgeLine, EndLine, HoldForm, hold_of}
use Rattle.problem_lines.specs.Keywords.{keyword_named}
use Rattle.problem_lines.specs.Numbers.{integer_of, number_of}
use Rattle.loop_lines.specs.Columns.{Placed, column_after}
use Rattle.problem_lines.specs.Words.{LeftWords, word_at}
use Rattle.problem_faults.specs.declared.expected.Expected.{Expected}
use Rattle.problem_faults.specs.declared.expected.Expected.TheVariants.{Keyword, Name, UnitName, Number, Integer, Hold, Latency, Storage, Bar, Of, Lands, In, Distance, Offset, Delay}
use Rattle.problem_lines.specs.declared.fault.LineFault.{LineFault}
use Rattle.problem_lines.specs.declared.keyword.Keyword as first
use Rattle.problem_lines.specs.declared.keyword.Keyword.TheVariants as words
use Rattle.problem_lines.specs.declared.number.Number as numbers
use Rattle.problem_lines.specs.declared.number.Storage as stored
use Rattle.problem_lines.specs.declared.number.Storage.TheVariants.{Rotating, Unallotted}

-- a word is this one
abbrev pub is_word : Placed → List ℕ → Bool
is_word w text = same_word w.bytes text

abbrev pub is_bar : Placed → Bool
is_bar w = is_word w (codes "|")

-- what stands after a keyword

-- `units NAME NAME ..`
abbrev pub unit_places : List Placed → List Expected
unit_places [] = UnitName ∷ []
unit_places (w ∷ ws) = UnitName ∷ map (λ (other : Placed). UnitName) ws

-- `file NAME rotating NUM`, or `file NAME unallotted`
abbrev pub file_places : List Placed → List Expected
file_places ws = Name ∷ Storage ∷ (if is_word (word_at ws 1) (codes "rotating") then Number ∷ [] else [])

-- `HOLD HOLD .. | HOLD ..`: a hold has to stand at the beginning and after each bar, and elsewhere may stand a hold or a bar
abbrev pub hold_places : Bool → List Placed → List Expected
hold_places true [] = Hold ∷ []
hold_places true (w ∷ ws) = Hold ∷ hold_places false ws
hold_places false [] = []
hold_places false (w ∷ ws) = if is_bar w then Bar ∷ hold_places true ws else Hold ∷ hold_places false ws

-- `kind NAME latency NUM | HOLD HOLD .. | ..`
abbrev pub kind_places : List Placed → List Expected
kind_places ws = Name ∷ Latency ∷ Number ∷ Bar ∷ hold_places true (drop 4 ws)

-- `read OP VALUE`, `read OP VALUE distance NUM`, or `read OP VALUE distance NUM offset NUM`
abbrev pub read_places : List Placed → List Expected
read_places ws = Name ∷ Name ∷ (if nat_le (length ws) 2 then [] else Distance ∷ Number ∷ (if nat_le (length ws) 4 then [] else Offset ∷ Number ∷ []))

abbrev pub places : first.Keyword → List Placed → List Expected
places words.Machine ws = Name ∷ []
places words.Units ws = unit_places ws
places words.File ws = file_places ws
places words.Kind ws = kind_places ws
places words.Problem ws = Name ∷ []
places words.Op ws = Name ∷ Name ∷ []
places words.Value ws = Name ∷ Of ∷ Name ∷ Lands ∷ Number ∷ In ∷ Name ∷ []
places words.Read ws = read_places ws
places words.Edge ws = Name ∷ Name ∷ Delay ∷ Integer ∷ Distance ∷ Number ∷ []
places words.End ws = []

-- the words after one word `out`, if it is the first
abbrev pub after_out : List Placed → List Placed
after_out [] = []
after_out (w ∷ ws) = if is_word w (codes "out") then ws else w ∷ ws

-- the fault of what stands after the places: only of a value's may follow a word, `out`
abbrev pub end_fault : first.Keyword → List Placed → Option LineFault
end_fault words.Value ws = surplus (after_out ws)
end_fault keyword ws = surplus ws

-- faults

-- the column after the first word, or this one where there is none
abbrev pub column_after_first : ℕ → List Placed → ℕ
column_after_first column [] = column
column_after_first column (w ∷ ws) = column_after w

abbrev pub after_one : List Placed → List Placed
after_one [] = []
after_one (w ∷ ws) = ws

-- the first fault of words that stand after a column and have to fit these places, and after them this
abbrev pub places_fault : (List Placed → Option LineFault) → ℕ → List Expected → List Placed → Option LineFault
places_fault end column [] ws = end ws
places_fault end column (what ∷ more) ws =
    option_or (misfit column what ws) (places_fault end (column_after_first column ws) more (after_one ws))

-- what words say that fit their places

abbrev pub storage_in : List Placed → stored.Storage
storage_in ws = if is_word (word_at ws 1) (codes "rotating") then Rotating (number_of (word_at ws 2)) else Unallotted

-- the holds up to the next bar
abbrev pub holds_in : List Placed → List HoldForm
holds_in [] = []
holds_in (w ∷ ws) = if is_bar w then [] else hold_of w ∷ holds_in ws

-- each bar begins an alternative
abbrev pub alternatives_in : List Placed → List (List HoldForm)
alternatives_in [] = []
alternatives_in (w ∷ ws) = if is_bar w then holds_in ws ∷ alternatives_in ws else alternatives_in ws

abbrev pub distance_in : List Placed → Option numbers.Number
distance_in ws = if nat_le (length ws) 2 then None else Some (number_of (word_at ws 3))

abbrev pub offset_in : List Placed → Option numbers.Number
offset_in ws = if nat_le (length ws) 4 then None else Some (number_of (word_at ws 5))

abbrev pub says : first.Keyword → List Placed → Form
says words.Machine ws = MachineLine (word_at ws 0)
says words.Units ws = UnitsLine ws
says words.File ws = FileLine (word_at ws 0) (storage_in ws)
says words.Kind ws = KindLine (word_at ws 0) (number_of (word_at ws 2)) (alternatives_in (drop 3 ws))
says words.Problem ws = ProblemLine (word_at ws 0)
says words.Op ws = OpLine (word_at ws 0) (word_at ws 1)
says words.Value ws = ValueLine (word_at ws 0) (word_at ws 2) (number_of (word_at ws 4)) (word_at ws 6) (is_word (word_at ws 7) (codes "out"))
says words.Read ws = ReadLine (word_at ws 0) (word_at ws 1) (distance_in ws) (offset_in ws)
says words.Edge ws = EdgeLine (word_at ws 0) (word_at ws 1) (integer_of (word_at ws 3)) (number_of (word_at ws 5))
says words.End ws = EndLine

-- lines

-- a form, unless there is a fault
abbrev pub unless_fault : {A : Type 0} → Option LineFault → A → Result A LineFault
unless_fault None form = Ok form
unless_fault (Some fault) form = Err fault

-- what is left of a line after its keyword
abbrev pub keyword_line : first.Keyword → LeftWords → Result Form LineFault
keyword_line keyword left = unless_fault (places_fault (end_fault keyword) left.after (places keyword left.words) left.words) (says keyword left.words)

-- a line that says something, with the column and the width of its keyword
pub record LineForm : Type 0 where
  pub column : ℕ
  pub width : ℕ
  pub form : Form

abbrev pub with_keyword : Placed → Result Form LineFault → Result (Option LineForm) LineFault
with_keyword w (Ok form) = Ok (Some (record { column = w.column; width = length w.bytes; form = form }))
with_keyword w (Err fault) = Err fault

abbrev pub word_line : Option first.Keyword → Placed → List Placed → Result (Option LineForm) LineFault
word_line None w ws = Err (fault_on Keyword w)
word_line (Some keyword) w ws = with_keyword w (keyword_line keyword (record { words = ws; after = column_after w }))

-- a line, which says nothing where it has no words
abbrev pub line_form : List Placed → Result (Option LineForm) LineFault
line_form [] = Ok None
line_form (w ∷ ws) = word_line (keyword_named w.bytes) w ws
