-- The words of keys in a text.
use Rattle.std.specs.Prelude.{ℕ, zero, suc, ◌+◌, ◌-◌, ◌==◌, ◌&&◌, ◌||◌, nat_lt, not, Bool, false, if◌then◌else◌, codes, List, [], ◌∷◌, drop, length, Option, Some, None, option_and_then, slice_index, take}
use Rattle.std.specs.Char.{is_ascii_alphanumeric}
use Rattle.std.specs.Option.{option_or}
use Rattle.machine_data.specs.Opcodes.{same_word}

-- a byte that may stand in a key without quotes: a letter, a digit, `_` (95) or `-` (45)
abbrev pub is_key_byte : ℕ → Bool
is_key_byte byte = (is_ascii_alphanumeric byte || (byte == 95)) || (byte == 45)

-- such a byte stands at an offset
abbrev pub bare_at : List ℕ → ℕ → Bool
bare_at text at = nat_lt at (length text) && is_key_byte (slice_index text at)

-- such a byte stands right before an offset
abbrev pub bare_before : List ℕ → ℕ → Bool
bare_before text at = nat_lt 0 at && bare_at text (at - 1)

-- a word stands at an offset, and is no part of a longer one
unfoldable pub is_word_at : List ℕ → List ℕ → ℕ → Bool
is_word_at text word at =
    (same_word word (take (length word) (drop at text)) && not (bare_at text (at + length word)))
    && not (bare_before text at)

-- a blank
abbrev pub is_blank : ℕ → Bool
is_blank byte = (byte == 32) || (byte == 9)

-- a byte that stands after a key: `=` (61), `.` (46) or `]` (93)
abbrev pub is_mark : ℕ → Bool
is_mark byte = ((byte == 61) || (byte == 46)) || (byte == 93)

-- blanks, and then such a byte
abbrev pub leads_on : List ℕ → Bool
leads_on [] = false
leads_on (c ∷ cs) = if is_blank c then leads_on cs else is_mark c

-- whether a text ends in a comment, where one has begun before it or not. A `#` (35) begins it, and a line feed ends it
abbrev pub comment_after : Bool → List ℕ → Bool
comment_after begun [] = begun
comment_after begun (c ∷ cs) = comment_after (if c == 10 then false else begun || (c == 35)) cs

-- a word stands at an offset as a key does, and in no comment
unfoldable pub is_key_at : List ℕ → List ℕ → ℕ → Bool
is_key_at text word at = (is_word_at text word at && leads_on (drop (at + length word) text)) && not (comment_after false (take at text))

-- the first number that passes a test, of `count` numbers from `from` on
abbrev pub first_at : (ℕ → Bool) → ℕ → ℕ → Option ℕ
first_at test from zero = None
first_at test from (suc count) = if test from then Some from else first_at test (suc from) count

abbrev pub first_key : List ℕ → List ℕ → ℕ → Option ℕ
first_key text word from = first_at (is_key_at text word) from (length text - from)

abbrev pub first_word : List ℕ → List ℕ → ℕ → Option ℕ
first_word text word from = first_at (is_word_at text word) from (length text - from)

-- the first place from an offset on at which a word stands as a key does, or at all
unfoldable pub key_from : List ℕ → List ℕ → ℕ → Option ℕ
key_from text word from = option_or (first_key text word from) (first_word text word from)

-- the place of a word after the first `ops`
unfoldable pub table_from : List ℕ → List ℕ → Option ℕ
table_from text word = option_and_then (λ at. key_from text word (at + 3)) (key_from text (codes "ops") 0)

-- the place of a key after the word of its table
unfoldable pub inside_from : List ℕ → List ℕ → List ℕ → Option ℕ
inside_from text word key = option_and_then (λ at. key_from text key (at + length word)) (table_from text word)
