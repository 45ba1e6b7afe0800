-- The canonical text of a loop: a line for each part, words parted by one blank, and a line feed at the end of each line.
use Rattle.std.specs.Prelude.{ℕ, List, [], ◌∷◌, ◌++◌, map, codes, Option, Some, None}
use Rattle.std.specs.List.{flat_map}
use Rattle.std.specs.Fmt.{signed_decimal}
use Rattle.writing.specs.Words.{at}
use Rattle.machine_data.specs.declared.opcode.Opcode.{Opcode}
use Rattle.machine_data.specs.Opcodes.{word_of}
use Rattle.loop_data.specs.declared.language.lists.Array.{Array}
use Rattle.loop_data.specs.declared.language.lists.Param.{Param}
use Rattle.loop_data.specs.declared.language.lists.Initial.{Initial}
use Rattle.loop_data.specs.declared.language.statement.Operand.{Operand}
use Rattle.loop_data.specs.declared.language.statement.Operand.TheVariants.{Constant, Parameter, Value}
use Rattle.loop_data.specs.declared.language.statement.Place.{Place}
use Rattle.loop_data.specs.declared.language.statement.Statement.{Statement}
use Rattle.loop_data.specs.Loops.{LoopData}
pub use Rattle.loop_data.specs.NamedParts.{array_name, param_name, value_name, offset_text, place_word}

-- words

abbrev pub operand_word : LoopData → Operand → List ℕ
operand_word loop (Constant value) = signed_decimal value
operand_word loop (Parameter number) = param_name loop number
operand_word loop (Value statement distance) = at (value_name loop statement) distance

-- lines, by their words

abbrev pub array_words : Array → List (List ℕ)
array_words a = codes "array" ∷ a.name ∷ codes "=" ∷ map signed_decimal a.cells

abbrev pub param_words : Param → List (List ℕ)
param_words p = codes "param" ∷ p.name ∷ codes "=" ∷ signed_decimal p.value ∷ []

abbrev pub init_words : LoopData → Initial → List (List ℕ)
init_words loop i = codes "init" ∷ at (value_name loop i.statement) i.number ∷ codes "=" ∷ signed_decimal i.value ∷ []

abbrev pub place_words : LoopData → Option Place → List (List ℕ)
place_words loop None = []
place_words loop (Some place) = place_word loop place ∷ []

-- what a store reads: its value and, after `if`, its guard
abbrev pub stored_words : List (List ℕ) → List (List ℕ)
stored_words [] = []
stored_words (value ∷ []) = value ∷ []
stored_words (value ∷ guards) = value ∷ codes "if" ∷ guards

-- a statement without a name is a store
abbrev pub words_by : LoopData → Opcode → Option (List ℕ) → List (List ℕ) → List (List ℕ) → List (List ℕ)
words_by loop opcode None place operands = word_of opcode ∷ (place ++ stored_words operands)
words_by loop opcode (Some name) place operands = name ∷ codes "=" ∷ word_of opcode ∷ (place ++ operands)

abbrev pub statement_words : LoopData → Statement → List (List ℕ)
statement_words loop s = words_by loop s.opcode s.name (place_words loop s.place) (map (operand_word loop) s.operands)

abbrev pub out_words : LoopData → ℕ → List (List ℕ)
out_words loop statement = codes "out" ∷ value_name loop statement ∷ []

-- the lines of a loop: its name, arrays, parameters, initial values, statements and live values, and `end`
abbrev pub words_of_loop : LoopData → List (List (List ℕ))
words_of_loop loop =
    ((((((codes "loop" ∷ loop.name ∷ []) ∷ [])
    ++ map array_words loop.arrays)
    ++ map param_words loop.params)
    ++ map (init_words loop) loop.inits)
    ++ map (statement_words loop) loop.statements)
    ++ map (out_words loop) loop.outs
    ++ (codes "end" ∷ []) ∷ []

-- texts

-- words after another, each after a blank
abbrev pub following : List (List ℕ) → List ℕ
following words = flat_map (λ word. 32 ∷ word) words

abbrev pub line_text : List (List ℕ) → List ℕ
line_text [] = 10 ∷ []
line_text (word ∷ words) = (word ++ following words) ++ 10 ∷ []

unfoldable pub text_of : LoopData → List ℕ
text_of loop = flat_map line_text (words_of_loop loop)
