-- What is wrong with a line of a loop text, and what is expected, in words.
use Rattle.std.specs.Prelude.{ℕ, ◌==◌, ◌||◌, nat_lt, Bool, true, false, if◌then◌else◌, codes, List, [], ◌∷◌, ◌++◌, flat_map, length, Option, Some, None}
use Rattle.std.specs.Char.{is_ascii_digit}
use Rattle.std.specs.List.{list_any}
use Rattle.machine_data.specs.Opcodes.{same_word}
use Rattle.loop_lines.specs.Forms.{Form, Malformed, line_form}
use Rattle.loop_lines.specs.Words.{words_of}
use Rattle.reader_faults.specs.declared.loops.LoopFaultKind.{LoopFaultKind}
use Rattle.reader_faults.specs.declared.loops.LoopFaultKind.TheVariants as kind
use Rattle.loop_lint.specs.Hints.{name_in}
use Rattle.loop_lint.specs.declared.fault.Hint.{Hint}
use Rattle.loop_lint.specs.declared.fault.Hint.TheVariants as hint
use Rattle.loop_lint.specs.declared.lacks.LoopLint.{LoopLint}
use Rattle.loop_lint.specs.declared.lacks.LoopLint.TheVariants as lint
use Rattle.writing.specs.Words.{told}
use Rattle.lint_text.specs.Words.{shown}

-- the line has none of the forms
abbrev pub is_form : Option Form → Bool
is_form None = false
is_form (Some Malformed) = false
is_form (Some form) = true

abbrev pub has_form : List ℕ → Bool
has_form line = is_form (line_form (words_of line))

-- the word begins as an integer does
abbrev pub begins_integer : List ℕ → Bool
begins_integer [] = false
begins_integer (c ∷ cs) = is_ascii_digit c || (c == 45)

-- what is said of a name, a number, a place, a use or a cell that is outside its limits
unfoldable pub allowed_part : List ℕ → List ℕ
allowed_part word =
    if list_any (λ c. c == 91) word then codes "limit: expected a name of at most 16 bytes and a constant of -64 to 64"
    else if list_any (λ c. c == 64) word then codes "limit: expected a name of at most 16 bytes and a number of 1 to 16"
    else if begins_integer word then codes "limit: expected a number of 64 bits, and at most 1024 cells"
    else if nat_lt 16 (length word) then codes "limit: expected a name of at most 16 bytes"
    else codes "limit: expected at most 128 statements"

-- what is said of a word that is outside its limits. A keyword is told where there is one line too many, and no word where the text is too long
unfoldable pub allowed : List ℕ → List ℕ
allowed word =
    if length word == 0 then codes "limit: expected a text of at most 1048576 bytes"
    else if same_word word (codes "loop") then codes "limit: expected at most 1024 loops"
    else if same_word word (codes "array") then codes "limit: expected at most 32 arrays"
    else if same_word word (codes "param") then codes "limit: expected at most 64 parameters"
    else if same_word word (codes "end") then codes "limit: expected at least one statement"
    else if same_word word (codes "store") then codes "limit: expected at most 128 statements"
    else allowed_part word

-- what is said of a syntax fault of a line, at this word
unfoldable pub misplaced : List ℕ → List ℕ → List ℕ
misplaced line word =
    if has_form line then codes "syntax: this line stands in a wrong place"
    else if length word == 0 then codes "syntax: a word is missing here"
    else codes "syntax: no form of a line goes on here"

-- what is said of a fault of a line, at this word
abbrev pub what : LoopFaultKind → List ℕ → List ℕ → List ℕ
what kind.Syntax line word = misplaced line word
what kind.Limit line word = allowed word
what kind.RepeatedName line word = codes "repeated name: an earlier line has it"
what kind.UnknownName line word = codes "unknown name: no line of the loop declares it"
what kind.UseBeforeDefinition line word = codes "use before definition: given on this line or a later one"
what kind.MissingInit line word = codes "missing init: an initial value is missing"
what kind.NoEnd line word = codes "no end: the text ends inside a loop, expected end"
what kind.Memory line word = codes "out of memory"

-- what helps to mend a fault

-- a name that may be meant
abbrev pub name_text : List ℕ → List ℕ
name_text name = (codes ": did you mean " ++ shown name) ++ codes "?"

-- an initial value of the name in a word
abbrev pub init_text : List ℕ → ℕ → List ℕ
init_text word number = shown (name_in word) ++ told (codes "@") number

abbrev pub inits_more : List ℕ → List ℕ → List ℕ
inits_more word numbers = flat_map (λ number. codes ", " ++ init_text word number) numbers

abbrev pub inits_text : List ℕ → List ℕ → List ℕ
inits_text word [] = []
inits_text word (number ∷ numbers) = (codes ": expected init " ++ init_text word number) ++ inits_more word numbers

-- what is said at a word
abbrev pub hint_text : List ℕ → Hint → List ℕ
hint_text word hint.Nothing = []
hint_text word (hint.Name name) = name_text name
hint_text word (hint.Inits numbers) = inits_text word numbers

-- what is said of a line, at this word
abbrev pub message_of : List ℕ → List ℕ → LoopLint → List ℕ
message_of line word (lint.Fault fault) = what fault.kind line word ++ hint_text word fault.hint
message_of line word (lint.NoTable lack) = codes "no table: the machine has none for this opcode"
