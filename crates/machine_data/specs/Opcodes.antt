-- The opcodes, their words and their numbers.
use Rattle.std.specs.Prelude.{ℕ, Bool, List, [], ◌∷◌, Option, find, codes}
use Rattle.std.specs.Cmp.Lexicographic.{pointwise}
use Rattle.std.specs.Prelude.{nat_eq}
use Rattle.machine_data.specs.declared.opcode.Opcode.{Opcode}
use Rattle.machine_data.specs.declared.opcode.Opcode.TheVariants.{Load, Store, Add, Sub, Mul, And, Or, Xor, Min, Max, Lt, Sel, Mov}

-- the word that stands for an opcode in a machine text and in a loop text
abbrev pub word_of : Opcode → List ℕ
word_of Load = codes "load"
word_of Store = codes "store"
word_of Add = codes "add"
word_of Sub = codes "sub"
word_of Mul = codes "mul"
word_of And = codes "and"
word_of Or = codes "or"
word_of Xor = codes "xor"
word_of Min = codes "min"
word_of Max = codes "max"
word_of Lt = codes "lt"
word_of Sel = codes "sel"
word_of Mov = codes "mov"

-- an opcode's place among all, from 0
abbrev pub opcode_number : Opcode → ℕ
opcode_number Load = 0
opcode_number Store = 1
opcode_number Add = 2
opcode_number Sub = 3
opcode_number Mul = 4
opcode_number And = 5
opcode_number Or = 6
opcode_number Xor = 7
opcode_number Min = 8
opcode_number Max = 9
opcode_number Lt = 10
opcode_number Sel = 11
opcode_number Mov = 12

-- all opcodes, by their numbers
abbrev pub all_opcodes : List Opcode
all_opcodes = Load ∷ Store ∷ Add ∷ Sub ∷ Mul ∷ And ∷ Or ∷ Xor ∷ Min ∷ Max ∷ Lt ∷ Sel ∷ Mov ∷ []

-- the two words have the same bytes
abbrev pub same_word : List ℕ → List ℕ → Bool
same_word = pointwise nat_eq

-- the opcode that a word stands for
abbrev pub opcode_named : List ℕ → Option Opcode
opcode_named word = find (λ o. same_word (word_of o) word) all_opcodes
