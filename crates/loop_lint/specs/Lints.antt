-- All faults of a loop text, each with the word that it is about.
--
-- Without their words they are the faults of the text, as its meaning lists them: a clause says so.
use Rattle.std.specs.Prelude.{◌≡◌, ℕ, ◌+◌, nat_lt, if◌then◌else◌, List, [], ◌∷◌, ◌++◌, length, map, Option, Some, None, Result, Ok, Err}
use Rattle.machine_data.specs.declared.limits.TheConstants.{MAX_TEXT}
use Rattle.loop_lines.specs.Forms.{Form, LoopLine, EndLine, line_form}
use Rattle.loop_lines.specs.Words.{lines_of, words_of}
use Rattle.loop_data.specs.Loops.{LoopData}
use Rattle.loop_reader.specs.Meaning.{Kinds, faults_of, forms_of, line_faults, opening_faults, outside_faults, whole, with_line}
use Rattle.reader_faults.specs.declared.loops.LoopFault.{LoopFault}
use Rattle.reader_faults.specs.declared.loops.LoopFaultKind.{LoopFaultKind}
use Rattle.reader_faults.specs.declared.loops.LoopFaultKind.TheVariants.{Limit, NoEnd, Syntax}
use Rattle.loop_lint.specs.Hints.{hint_of, no_hint}
use Rattle.loop_lint.specs.Parts.{syntax_word, word_of_fault, word_of_opening}
use Rattle.loop_lines.specs.Columns.{Placed, placed_words}
use Rattle.loop_lint.specs.Words.{spot_at}
use Rattle.loop_lint.specs.declared.spots.Spot.{Spot}
use Rattle.loop_lint.specs.declared.fault.Hint.{Hint}
use Rattle.loop_lint.specs.declared.fault.Hint.TheVariants.{Nothing}
use Rattle.loop_lint.specs.declared.fault.LintFault.{LintFault}

-- a line of a text: one without words, or the words of one and the form that they have
pub data TextLine : Type 0 where
  Blank : TextLine
  Words : List Placed → Form → TextLine

abbrev pub line_with : List Placed → Option Form → TextLine
line_with words None = Blank
line_with words (Some form) = Words words form

abbrev pub line_read : List ℕ → TextLine
line_read line = line_with (placed_words line) (line_form (words_of line))

abbrev pub text_lines : List ℕ → List TextLine
text_lines text = map line_read (lines_of text)

abbrev pub form_in : TextLine → Option Form
form_in Blank = None
form_in (Words words form) = Some form

abbrev pub forms_in : List TextLine → List (Option Form)
forms_in lines = map form_in lines

abbrev pub bytes_in : List Placed → List (List ℕ)
bytes_in words = map (λ (w : Placed). w.bytes) words

-- a fault of a line at a spot of it, with what helps to mend it
abbrev pub fault_at : ℕ → LoopFaultKind → Spot → Hint → LintFault
fault_at line kind spot hint = record { line = line; column = spot.column; width = spot.width; kind = kind; hint = hint }

-- the faults of a line that has these words, each at the word with the number that is told for its kind, with what is told for both
abbrev pub told : ℕ → List Placed → (LoopFaultKind → ℕ → Hint) → (LoopFaultKind → ℕ) → Kinds → List LintFault
told line words hint word kinds = map (λ kind. fault_at line kind (spot_at words (word kind)) (hint kind (word kind))) kinds

-- a text that ends inside a loop is told so of the line after its last, at column 1
abbrev pub no_end : ℕ → LintFault
no_end line = record { line = line; column = 1; width = 0; kind = NoEnd; hint = Nothing }

-- the faults of lines outside a block and of those inside one, from the line of this number on, as their meaning lists them.
-- names are those of the loops so far, and before the standing lines of the block so far
abbrev mutual
  pub outside_lints : ℕ → List (List ℕ) → List TextLine → List LintFault
  outside_lints line names [] = []
  outside_lints line names (Blank ∷ lines) = outside_lints (line + 1) names lines
  outside_lints line names (Words words (LoopLine name) ∷ lines) =
      told line words no_hint (word_of_opening names name) (opening_faults names name) ++ inside_lints (line + 1) (names ++ name ∷ []) [] lines
  outside_lints line names (Words words form ∷ lines) =
      told line words no_hint (λ kind. syntax_word (bytes_in words) form) (Syntax ∷ []) ++ outside_lints (line + 1) names lines

  pub inside_lints : ℕ → List (List ℕ) → List Form → List TextLine → List LintFault
  inside_lints line names before [] = no_end line ∷ []
  inside_lints line names before (Blank ∷ lines) = inside_lints (line + 1) names before lines
  inside_lints line names before (Words words EndLine ∷ lines) =
      told line words (hint_of before (bytes_in words)) (word_of_fault before before (bytes_in words) EndLine) (faults_of before before EndLine) ++ outside_lints (line + 1) names lines
  inside_lints line names before (Words words form ∷ lines) =
      told line words (hint_of (whole before (Some form ∷ forms_in lines)) (bytes_in words)) (word_of_fault before (whole before (Some form ∷ forms_in lines)) (bytes_in words) form)
      (line_faults before (whole before (Some form ∷ forms_in lines)) form)
      ++ inside_lints (line + 1) names (with_line before form) lines

-- a text with more bytes than it may have is told so of line 0
abbrev pub too_long : LintFault
too_long = record { line = 0; column = 0; width = 0; kind = Limit; hint = Nothing }

-- all faults of a text, with the words that they are about
unfoldable pub lints_in : List ℕ → List LintFault
lints_in text = if nat_lt MAX_TEXT (length text) then too_long ∷ [] else outside_lints 1 [] (text_lines text)

-- all faults of a text
unfoldable pub faults_in : List ℕ → List LoopFault
faults_in text = if nat_lt MAX_TEXT (length text) then record { line = 0; kind = Limit } ∷ [] else outside_faults 1 [] (forms_of text)

-- a fault without its word
abbrev pub plain : LintFault → LoopFault
plain fault = record { line = fault.line; kind = fault.kind }

-- what a call answers for a text
pub record AreFaults (text : List ℕ) (faults : List LintFault) : Type 0 where
  -- they are just the faults of the text, and each is on the word that it is about
  pub all : map plain faults ≡ faults_in text
  pub words : faults ≡ lints_in text

-- there are none where the text means some loops; else the first is the fault that its meaning is
abbrev pub BeginsAs : Result (List LoopData) LoopFault → List LoopFault → Type 0
BeginsAs (Ok loops) faults = faults ≡ []
BeginsAs (Err fault) faults = (others : List LoopFault) × (faults ≡ fault ∷ others)
