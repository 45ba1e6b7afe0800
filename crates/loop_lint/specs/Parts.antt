-- Which word of a line a fault is about.
--
-- A line with a form has parts, each of which is one of its words. Each part by itself has a fault or has it not, in its block and after the
-- standing lines before it. A fault is about the first part that has it. Where no part has it, there is one line too many, or a loop ends
-- without a statement, and it is about the first word of the line.
use Rattle.std.specs.Prelude.{ℕ, ℤ, ◌+◌, ◌*◌, ◌||◌, nat_le, not, Bool, false, if◌then◌else◌, List, [], ◌∷◌, ◌++◌, drop, Option, Some, None, is_none, is_some, unwrap_or}
use Rattle.std.specs.List.{list_any}
use Rattle.machine_data.specs.declared.opcode.Opcode.{Opcode}
use Rattle.machine_data.specs.declared.opcode.Opcode.TheVariants.{Store}
use Rattle.loop_lines.specs.Forms.{Form, ArrayLine, ParamLine, InitLine, StatementLine, OutLine, Malformed, Subscript, Use, int_of}
use Rattle.loop_reader.specs.Meaning.{declared, has_init, how_many, is_early, is_init, is_long, is_out_of, is_outside, is_statement, is_uncovered, is_unknown, is_unknown_place, is_value, is_wide, is_wide_place}
use Rattle.reader_faults.specs.declared.loops.LoopFaultKind.{LoopFaultKind}
use Rattle.reader_faults.specs.declared.loops.LoopFaultKind.TheVariants.{Syntax, Limit, RepeatedName, UnknownName, UseBeforeDefinition, MissingInit}
use Rattle.loop_lint.specs.Misfits.{misfit}

pub data Part : Type 0 where
  -- the name of an array, of a parameter or of a statement's value
  AName : List ℕ → Part
  -- a cell's number, from 0, and its word
  ACell : ℕ → List ℕ → Part
  -- an integer
  AnInteger : Option ℤ → Part
  -- `NAME@NUM` of an initial value
  AnInit : List ℕ → Option ℕ → Part
  APlace : Subscript → Part
  AUse : Use → Part
  -- the name of an `out`
  AnOut : List ℕ → Part

-- a part, and the number of the word that it is, from 0
pub record PartAt : Type 0 where
  pub word : ℕ
  pub part : Part

-- the parts of lines

abbrev pub name_part : Option (List ℕ) → List PartAt
name_part None = []
name_part (Some name) = record { word = 0; part = AName name } ∷ []

abbrev pub place_part : ℕ → Option Subscript → List PartAt
place_part word None = []
place_part word (Some place) = record { word = word; part = APlace place } ∷ []

-- `store PLACE USE if USE`, or `NAME = OP PLACE` and `NAME = OP USE USE ..`
abbrev pub place_word : Opcode → ℕ
place_word Store = 1
place_word opcode = 3

abbrev pub use_word : Opcode → ℕ → ℕ
use_word Store number = 2 * number + 2
use_word opcode number = number + 3

-- the uses of a statement, from use `number` on
abbrev pub use_parts : Opcode → ℕ → List Use → List PartAt
use_parts opcode number [] = []
use_parts opcode number (u ∷ us) = record { word = use_word opcode number; part = AUse u } ∷ use_parts opcode (number + 1) us

-- the cells of an array, from cell `number` on, by their words
abbrev pub cell_parts : ℕ → List (List ℕ) → List PartAt
cell_parts number [] = []
cell_parts number (cell ∷ cells) = record { word = number + 3; part = ACell number cell } ∷ cell_parts (number + 1) cells

-- the parts of a line by its words and their form, from left to right
abbrev pub parts_of : List (List ℕ) → Form → List PartAt
parts_of words (ArrayLine name cells) = record { word = 1; part = AName name } ∷ cell_parts 0 (drop 3 words)
parts_of words (ParamLine name value) = record { word = 1; part = AName name } ∷ record { word = 3; part = AnInteger value } ∷ []
parts_of words (InitLine name number value) = record { word = 1; part = AnInit name number } ∷ record { word = 3; part = AnInteger value } ∷ []
parts_of words (StatementLine source) =
    name_part source.name ++ (place_part (place_word source.opcode) source.place ++ use_parts source.opcode 0 source.uses)
parts_of words (OutLine name) = record { word = 1; part = AnOut name } ∷ []
parts_of words form = []

-- the faults of parts

-- a cell that doesn't fit 64 bits
abbrev pub is_wide_int : Option (Option ℤ) → Bool
is_wide_int None = false
is_wide_int (Some value) = is_none value

abbrev pub is_over : Part → Bool
is_over (AName name) = is_long name
is_over (ACell number word) = is_wide_int (int_of word) || nat_le 1024 number
is_over (AnInteger value) = is_none value
is_over (AnInit name number) = is_long name || is_outside number
is_over (APlace place) = is_wide_place (Some place)
is_over (AUse u) = is_wide u
is_over (AnOut name) = is_long name

-- after these lines
abbrev pub is_repeated : List Form → Part → Bool
is_repeated before (AName name) = is_some (declared before name)
is_repeated before (AnInit name number) = list_any (is_init name number) before
is_repeated before (AnOut name) = list_any (is_out_of name) before
is_repeated before part = false

-- in this block
abbrev pub is_unknown_part : List Form → Part → Bool
is_unknown_part block (AnInit name number) = not (is_value (declared block name))
is_unknown_part block (APlace place) = is_unknown_place block (Some place)
is_unknown_part block (AUse u) = is_unknown block u
is_unknown_part block (AnOut name) = not (is_value (declared block name))
is_unknown_part block part = false

-- of the statement with this number
abbrev pub is_early_part : List Form → ℕ → Part → Bool
is_early_part block statement (AUse u) = is_early block statement u
is_early_part block statement part = false

abbrev pub is_uncovered_part : List Form → Part → Bool
is_uncovered_part block (AUse u) = is_uncovered block u
is_uncovered_part block (AnOut name) = not (has_init block name 1)
is_uncovered_part block part = false

-- a part by itself has a fault of this kind, after the lines before it, in its block
abbrev pub has_fault : List Form → List Form → LoopFaultKind → Part → Bool
has_fault before block Limit part = is_over part
has_fault before block RepeatedName part = is_repeated before part
has_fault before block UnknownName part = is_unknown_part block part
has_fault before block UseBeforeDefinition part = is_early_part block (how_many is_statement before) part
has_fault before block MissingInit part = is_uncovered_part block part
has_fault before block kind part = false

-- the word of a fault

-- the word of the first part that passes a test
abbrev pub first_part : (Part → Bool) → List PartAt → Option ℕ
first_part test [] = None
first_part test (p ∷ ps) = if test p.part then Some p.word else first_part test ps

-- the word of a syntax fault: of a line with a form, which stands in a wrong place, the first one
abbrev pub syntax_word : List (List ℕ) → Form → ℕ
syntax_word words Malformed = misfit words
syntax_word words form = 0

-- the number of the word, from 0, that a fault of a line is about
abbrev pub word_of_fault : List Form → List Form → List (List ℕ) → Form → LoopFaultKind → ℕ
word_of_fault before block words form Syntax = syntax_word words form
word_of_fault before block words form kind = unwrap_or (first_part (has_fault before block kind) (parts_of words form)) 0

-- the same of a line that begins a loop, after loops of these names
abbrev pub word_of_opening : List (List ℕ) → List ℕ → LoopFaultKind → ℕ
word_of_opening names name Limit = if is_long name then 1 else 0
word_of_opening names name kind = 1
