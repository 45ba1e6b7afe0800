-- What is left of the words of a line.
use Rattle.std.specs.Prelude.{ℕ, List, []}
use Rattle.std.specs.List.{slice_index_or}
use Rattle.loop_lines.specs.Columns.{Placed, words_from}

-- what is left of a line after some words, and the column after the last of them
pub record LeftWords : Type 0 where
  pub words : List Placed
  pub after : ℕ

abbrev pub left_of : ℕ → List ℕ → LeftWords
left_of column text = record { words = words_from column text; after = column }

-- the word with this number, from 0, of words that have one with it
abbrev pub word_at : List Placed → ℕ → Placed
word_at words number = slice_index_or words number (record { bytes = []; column = 0 })
