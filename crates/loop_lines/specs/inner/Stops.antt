-- Where words stop, and which words stand in the places of equals signs.
use Rattle.std.specs.Prelude.{ℕ, Bool, true, false, codes, List, [], ◌∷◌}
use Rattle.machine_data.specs.Opcodes.{same_word}
use Rattle.loop_lines.specs.Words.{stops_word}

-- a word before this text ends before it
abbrev pub begins_stop : List ℕ → Bool
begins_stop [] = true
begins_stop (c ∷ cs) = stops_word c

-- the first word is `=`
abbrev pub begins_equals : List (List ℕ) → Bool
begins_equals [] = false
begins_equals (word ∷ words) = same_word word (codes "=")

-- three words, of which the second is `=`
abbrev pub is_equation : List (List ℕ) → Bool
is_equation (left ∷ equals ∷ right ∷ []) = same_word equals (codes "=")
is_equation _ = false
