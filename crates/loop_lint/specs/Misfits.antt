-- From which word on a line has no form.
--
-- What has to stand in each place of a line is listed from left to right, by its first word and, for a statement that gives a value, by its opcode.
-- This is asked of lines without a form alone.
use Rattle.std.specs.Prelude.{ℕ, codes, ◌+◌, ◌==◌, ◌&&◌, Bool, true, false, if◌then◌else◌, List, [], ◌∷◌, drop, map, replicate, Option, Some, None, is_some}
use Rattle.std.specs.List.{list_any, before_first, after_first}
use Rattle.machine_data.specs.declared.opcode.Opcode.{Opcode}
use Rattle.machine_data.specs.declared.opcode.Opcode.TheVariants.{Load, Store}
use Rattle.machine_data.specs.Opcodes.{opcode_named, same_word}
use Rattle.loop_data.specs.Arithmetic.{operands_of}
use Rattle.loop_data.specs.Names.{is_name}
use Rattle.loop_lines.specs.Forms.{int_of, is_number, place_of, use_of}
use Rattle.loop_lint.specs.declared.fits.Expected.{Expected}
use Rattle.loop_lint.specs.declared.fits.Expected.TheVariants as expected

-- `NAME@NUM`
abbrev pub is_init : List ℕ → Bool
is_init word =
    if list_any (λ c. c == 64) word then is_name (before_first (λ c. c == 64) word) && is_number (after_first (λ c. c == 64) word) else false

-- an opcode that gives a value: each but `store`
abbrev pub gives_value : Option Opcode → Bool
gives_value None = false
gives_value (Some Store) = false
gives_value (Some opcode) = true

-- a word may stand where this is expected
abbrev pub fits : Expected → List ℕ → Bool
fits expected.Name word = is_name word
fits expected.Init word = is_init word
fits expected.Place word = is_some (place_of word)
fits expected.Integer word = is_some (int_of word)
fits expected.Use word = is_some (use_of word)
fits expected.Opcode word = gives_value (opcode_named word)
fits expected.Equals word = same_word word (codes "=")
fits expected.If word = same_word word (codes "if")

-- what has to stand after an opcode
abbrev pub value_places : Option Opcode → List Expected
value_places None = []
value_places (Some Store) = []
value_places (Some Load) = expected.Place ∷ []
value_places (Some opcode) = replicate (operands_of opcode) expected.Use

-- what has to stand after the name of a value
abbrev pub statement_places : List (List ℕ) → List Expected
statement_places (equals ∷ opcode ∷ words) = expected.Equals ∷ expected.Opcode ∷ value_places (opcode_named opcode)
statement_places words = expected.Equals ∷ expected.Opcode ∷ []

-- the number of the first of these words, counted from the given number on, that does not stand in its place; or the number at
-- which a word is missing or too many
abbrev pub places_misfit : ℕ → List Expected → List (List ℕ) → ℕ
places_misfit number [] words = number
places_misfit number (what ∷ more) [] = number
places_misfit number (what ∷ more) (word ∷ words) = if fits what word then places_misfit (number + 1) more words else number

-- the same for what has to be a name first
abbrev pub value_misfit : List ℕ → List (List ℕ) → ℕ
value_misfit name words = if is_name name then places_misfit 1 (statement_places words) words else 0

-- the number, from 0, of the first word of a line from which on the line has no form. Where a word is missing it is the one after the last
unfoldable pub misfit : List (List ℕ) → ℕ
misfit [] = 0
misfit (word ∷ words) =
    if same_word word (codes "loop") then places_misfit 1 (expected.Name ∷ []) words
    else if same_word word (codes "array") then places_misfit 1 (expected.Name ∷ expected.Equals ∷ map (λ (w : List ℕ). expected.Integer) (drop 2 words)) words
    else if same_word word (codes "param") then places_misfit 1 (expected.Name ∷ expected.Equals ∷ expected.Integer ∷ []) words
    else if same_word word (codes "init") then places_misfit 1 (expected.Init ∷ expected.Equals ∷ expected.Integer ∷ []) words
    else if same_word word (codes "store") then places_misfit 1 (expected.Place ∷ expected.Use ∷ expected.If ∷ expected.Use ∷ []) words
    else if same_word word (codes "out") then places_misfit 1 (expected.Name ∷ []) words
    else if same_word word (codes "end") then places_misfit 1 [] words
    else value_misfit word words
