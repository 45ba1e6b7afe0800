-- What helps to mend a fault of a line: the nearest of the names that may stand there, or the initial values that are missing.
use Rattle.std.specs.Prelude.{ℕ, ◌+◌, ◌==◌, ◌||◌, min, not, Bool, if◌then◌else◌, codes, List, [], ◌∷◌, filter, flat_map, slice_index_or, take, Option, Some, None}
use Rattle.std.specs.List.{list_any, before_first, after_first, range_with_len}
use Rattle.std.specs.Str.Parse.{digits_value}
use Rattle.machine_data.specs.Opcodes.{same_word}
use Rattle.machine_data.specs.declared.limits.TheConstants.{MAX_ARRAYS, MAX_PARAMETERS, MAX_STATEMENTS}
use Rattle.near_names.specs.Nearest.{nearest}
use Rattle.loop_lines.specs.Forms.{Form, LoopLine, ArrayLine, ParamLine, InitLine, StatementLine, OutLine, EndLine, Malformed, is_number}
use Rattle.loop_reader.specs.Meaning.{Declared, declared, has_init, is_array_name, is_readable, is_value}
use Rattle.reader_faults.specs.declared.loops.LoopFaultKind.{LoopFaultKind}
use Rattle.reader_faults.specs.declared.loops.LoopFaultKind.TheVariants as kind
use Rattle.loop_lint.specs.declared.fault.Hint.{Hint}
use Rattle.loop_lint.specs.declared.fault.Hint.TheVariants as hint
use Rattle.loop_lint.specs.declared.hints.Wanted.{Wanted}
use Rattle.loop_lint.specs.declared.hints.Wanted.TheVariants as wants

-- whether a word has a byte, what stands before the first one, and what follows it
abbrev pub has_byte : ℕ → List ℕ → Bool
has_byte byte word = list_any (λ c. c == byte) word

-- the name in a word: what stands before a `[` or a `@`
abbrev pub name_in : List ℕ → List ℕ
name_in word =
    if has_byte 91 word then before_first (λ c. c == 91) word
    else if has_byte 64 word then before_first (λ c. c == 64) word
    else word

-- what the name in a word of a line has to be
abbrev pub wanted_at : List (List ℕ) → List ℕ → Wanted
wanted_at words word =
    if has_byte 91 word then wants.Array
    else if has_byte 64 word || same_word (slice_index_or words 0 []) (codes "out") then wants.Value
    else wants.Readable

abbrev pub may_be : Wanted → Option Declared → Bool
may_be wants.Array found = is_array_name found
may_be wants.Value found = is_value found
may_be wants.Readable found = is_readable found

abbrev pub listed : Option (List ℕ) → List (List ℕ)
listed None = []
listed (Some name) = name ∷ []

-- the name that a line declares
abbrev pub declares : Form → List (List ℕ)
declares (LoopLine name) = []
declares (ArrayLine name cells) = name ∷ []
declares (ParamLine name value) = name ∷ []
declares (InitLine name number value) = []
declares (StatementLine source) = listed source.name
declares (OutLine name) = []
declares EndLine = []
declares Malformed = []

-- the names that lines of a block declare, in their order. Of a block with too many the first are taken, as many as a block may have
abbrev pub names_of : List Form → List (List ℕ)
names_of block = take (MAX_ARRAYS + MAX_PARAMETERS + MAX_STATEMENTS) (flat_map declares block)

-- those that may stand where this is wanted
abbrev pub candidates : List Form → Wanted → List (List ℕ)
candidates block want = filter (λ name. may_be want (declared block name)) (names_of block)

abbrev pub name_hint : Option (List ℕ) → Hint
name_hint None = hint.Nothing
name_hint (Some name) = hint.Name name

-- the number of a word `NAME@NUM`, at most 16; of one without a number it is 1
abbrev pub reach : List ℕ → ℕ
reach word =
    if has_byte 64 word then (let digits = after_first (λ c. c == 64) word in if is_number digits then min (digits_value 10 digits) 16 else 0) else 1

-- the numbers of the initial values that the name in a word needs and has not
abbrev pub missing : List Form → List ℕ → List ℕ
missing block word = filter (λ number. not (has_init block (name_in word) number)) (range_with_len 1 (reach word))

-- what helps to mend a fault of this kind of a line of a block, at this word
abbrev pub hint_for : List Form → List (List ℕ) → List ℕ → LoopFaultKind → Hint
hint_for block words word kind.Syntax = hint.Nothing
hint_for block words word kind.Limit = hint.Nothing
hint_for block words word kind.RepeatedName = hint.Nothing
hint_for block words word kind.UnknownName = name_hint (nearest (name_in word) (candidates block (wanted_at words word)))
hint_for block words word kind.UseBeforeDefinition = hint.Nothing
hint_for block words word kind.MissingInit = hint.Inits (missing block word)
hint_for block words word kind.NoEnd = hint.Nothing
hint_for block words word kind.Memory = hint.Nothing

-- the same at the word with this number, from 0
abbrev pub hint_of : List Form → List (List ℕ) → LoopFaultKind → ℕ → Hint
hint_of block words kind number = hint_for block words (slice_index_or words number []) kind

-- faults that nothing helps to mend
abbrev pub no_hint : LoopFaultKind → ℕ → Hint
no_hint kind number = hint.Nothing
