-- The words of a line, each with its column. Without their columns they are the words of the line (a law says so).
use Rattle.std.specs.Prelude.{◌≡◌, ℕ, ◌+◌, ◌==◌, if◌then◌else◌, List, [], ◌∷◌, length, map}
use Rattle.std.specs.List.{before_first}
use Rattle.loop_lines.specs.Words.{ends_word, is_blank, words_of}

-- a word where it stands: the column of its first byte, from 1
pub record Placed : Type 0 where
  pub bytes : List ℕ
  pub column : ℕ

-- a byte at a column, in front of the first word
abbrev pub onto_placed : ℕ → ℕ → List Placed → List Placed
onto_placed c column [] = record { bytes = c ∷ []; column = column } ∷ []
onto_placed c column (w ∷ ws) = record { bytes = c ∷ w.bytes; column = column } ∷ ws

-- the words of what has no comment and begins at a column
abbrev pub pieces_from : ℕ → List ℕ → List Placed
pieces_from column [] = []
pieces_from column (c ∷ cs) =
    if is_blank c then pieces_from (column + 1) cs
    else if ends_word cs then record { bytes = c ∷ []; column = column } ∷ pieces_from (column + 1) cs
    else onto_placed c column (pieces_from (column + 1) cs)

-- the words of a rest of a line that begins at a column: `#` and what follows it is a comment
abbrev pub words_from : ℕ → List ℕ → List Placed
words_from column text = pieces_from column (before_first (λ c. c == 35) text)

-- the words of a line
abbrev pub placed_words : List ℕ → List Placed
placed_words line = words_from 1 line

-- the column after a word's last byte
abbrev pub column_after : Placed → ℕ
column_after w = w.column + length w.bytes

-- without their columns they are the words of the line
abbrev pub WordsAreWords : Type 0
WordsAreWords = (line : List ℕ) → map (λ (w : Placed). w.bytes) (placed_words line) ≡ words_of line
