-- The words of a loop text as lines tell them.
use Rattle.std.specs.Prelude.{ℕ, ◌+◌, ◌-◌, ◌/◌, ◌%◌, nat_le, nat_lt, ◌&&◌, Bool, if◌then◌else◌, codes, slice_index_or, List, [], ◌∷◌, ◌++◌, drop, flat_map, take}
use Rattle.loop_lines.specs.Words.{lines_of}

-- the bytes of line `number` of a text, from 1; none where there is no such line
abbrev pub line_at : List ℕ → ℕ → List ℕ
line_at text number = slice_index_or (lines_of text) (number - 1) []

-- the bytes of a line from a column on, from 1, no more than the width
abbrev pub piece_at : List ℕ → ℕ → ℕ → List ℕ
piece_at line column width = take width (drop (column - 1) line)

-- printable ASCII
abbrev pub is_printable : ℕ → Bool
is_printable byte = nat_le 32 byte && nat_lt byte 127

abbrev pub hex_digit : ℕ → ℕ
hex_digit digit = if nat_lt digit 10 then 48 + digit else 87 + digit

-- a byte that is no printable ASCII is told as `\xHH`
abbrev pub shown_byte : ℕ → List ℕ
shown_byte byte = if is_printable byte then byte ∷ [] else 92 ∷ 120 ∷ hex_digit (byte / 16) ∷ hex_digit (byte % 16) ∷ []

abbrev pub shown : List ℕ → List ℕ
shown word = flat_map shown_byte word

-- a word with a colon; without bytes nothing
abbrev pub word_told : List ℕ → List ℕ
word_told [] = []
word_told (c ∷ cs) = shown (c ∷ cs) ++ codes ": "
