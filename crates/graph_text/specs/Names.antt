-- How operations are named in texts.
use Rattle.std.specs.Prelude.{ℕ, List, [], Option, Some, None, slice_get}
use Rattle.machine_data.specs.Opcodes.{word_of}
use Rattle.loop_data.specs.declared.language.statement.Place.{Place}
use Rattle.loop_data.specs.declared.language.statement.Statement.{Statement}
use Rattle.loop_data.specs.Loops.{LoopData}
use Rattle.loop_data.specs.NamedParts.{place_word}

-- the name of a value, or where there is none the place that is written
abbrev pub name_or_place : LoopData → Option (List ℕ) → Option Place → List ℕ
name_or_place loop (Some name) place = name
name_or_place loop None (Some place) = place_word loop place
name_or_place loop None None = []

abbrev pub name_of : LoopData → Option Statement → List ℕ
name_of loop None = []
name_of loop (Some statement) = name_or_place loop statement.name statement.place

-- the name of the operation of this number: that of its value, or for a store its place as it stands in a loop text
abbrev pub op_name : LoopData → ℕ → List ℕ
op_name loop number = name_of loop (slice_get loop.statements number)

abbrev pub opcode_in : Option Statement → List ℕ
opcode_in None = []
opcode_in (Some statement) = word_of statement.opcode

-- the word of the opcode of the operation of this number
abbrev pub opcode_word : LoopData → ℕ → List ℕ
opcode_word loop number = opcode_in (slice_get loop.statements number)
