-- Which words are names of a loop's parts.
use Rattle.std.specs.Prelude.{ℕ, ◌==◌, ◌||◌, ◌&&◌, nat_lt, not, Bool, false, codes, List, [], ◌∷◌, is_some}
use Rattle.std.specs.List.{list_any, list_all}
use Rattle.machine_data.specs.Opcodes.{opcode_named, same_word}

abbrev pub is_letter : ℕ → Bool
is_letter c = (nat_lt 64 c && nat_lt c 91) || (nat_lt 96 c && nat_lt c 123) || (c == 95)

abbrev pub is_name_byte : ℕ → Bool
is_name_byte c = is_letter c || (nat_lt 47 c && nat_lt c 58)

-- the words that are no names beside the opcodes
abbrev pub keywords : List (List ℕ)
keywords = codes "loop" ∷ codes "array" ∷ codes "param" ∷ codes "init" ∷ codes "end" ∷ codes "out" ∷ codes "if" ∷ codes "i" ∷ []

abbrev pub is_reserved : List ℕ → Bool
is_reserved word = list_any (same_word word) keywords || is_some (opcode_named word)

-- a letter or `_`, then letters, digits and `_`, and not reserved
abbrev pub starts_name : List ℕ → Bool
starts_name [] = false
starts_name (c ∷ cs) = is_letter c && list_all is_name_byte cs

unfoldable pub is_name : List ℕ → Bool
is_name word = starts_name word && not (is_reserved word)
