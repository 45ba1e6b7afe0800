-- The parts that texts are put together of.
use Rattle.std.specs.Prelude.{ℕ, List, [], ◌∷◌, ◌++◌}
use Rattle.problems.specs.declared.draft.Draft.{Draft}
use Rattle.writing.specs.Words.{told, told_signed}
use Rattle.solution_text.specs.declared.parts.Part.{Part}
use Rattle.solution_text.specs.declared.parts.Part.TheVariants.{Piece, Told, Signed, Unit as UnitName, File, Operation, Value, Register as RegisterName}
use Rattle.solution_text.specs.Names.{file_name, op_name, unit_name, value_name}
use Rattle.solution_text.specs.Registers.{register_text}

abbrev pub part_text : Draft → Part → List ℕ
part_text draft (Piece piece) = piece.now
part_text draft (Told word number) = told word.now number
part_text draft (Signed word number) = told_signed word.now number
part_text draft (UnitName unit) = unit_name draft unit
part_text draft (File file) = file_name draft file
part_text draft (Operation op) = op_name draft op
part_text draft (Value value) = value_name draft value
part_text draft (RegisterName register) = register_text draft register

-- a text with parts after it
abbrev pub followed : Draft → List ℕ → List Part → List ℕ
followed draft text [] = text
followed draft text (part ∷ parts) = followed draft (text ++ part_text draft part) parts

-- parts, one after another
abbrev pub joined : Draft → List Part → List ℕ
joined draft [] = []
joined draft (part ∷ parts) = followed draft (part_text draft part) parts
