-- What the reader answers for a text, for a block of it and for a line that opens a block.
use Rattle.std.specs.Prelude.{◌≡◌, ℕ, ◌+◌, ◌<◌, ◌≤◌, List, [], ◌∷◌, ◌++◌, length, Option, Some, None, is_some, Result, Ok, Err}
use Rattle.std.specs.Borrow.{Bor}
use Rattle.std.specs.List.{All, list_any}
use Rattle.machine_data.specs.Opcodes.{same_word}
use Rattle.loop_data.specs.Loops.{IsLoop, LoopData}
use Rattle.loop_reader.specs.Meaning.{whole, forms_of, inside_faults, outside_faults, blocks_from, blocks_of, opening_faults, loop_of, loops_in}
use Rattle.reader_faults.specs.LoopFaults.{AnswersFault}
use Rattle.loop_reader.specs.inner.Checks.{first_in}
use Rattle.loop_reader.specs.inner.Known.{known_as}
use Rattle.reader_faults.specs.declared.loops.LoopFault.{LoopFault}
use Rattle.reader_faults.specs.declared.loops.LoopFaultKind.{LoopFaultKind}
use Rattle.reader_faults.specs.declared.loops.LoopFaultKind.TheVariants.{Syntax, Limit, NoEnd, Memory}
use Rattle.loop_reader.specs.declared.lines.collect.Stop.{Stop}
use Rattle.loop_reader.specs.declared.lines.collect.Stop.TheVariants as stops
use Rattle.loop_reader.specs.declared.names.known.Names.{Names}
use Rattle.loop_reader.specs.declared.read.BlockRead.{BlockRead}

-- a fault of line 0 for lack of memory, or another of which this holds
abbrev pub UnlessMemory : LoopFaultKind → LoopFault → Type 0 → Type 0
UnlessMemory Memory fault P = fault.line ≡ 0
UnlessMemory kind fault P = P

abbrev pub UnlessMemoryKind : LoopFaultKind → Type 0 → Type 0
UnlessMemoryKind Memory P = Unit {0}
UnlessMemoryKind kind P = P

-- a block without a fault, its loop and what follows it
pub record IsBlockRead (name : List ℕ) (number : ℕ) (text : List ℕ) (block : BlockRead) : Type 0 where
  pub faults : (names : List (List ℕ)) → inside_faults number names [] (forms_of text) ≡ outside_faults block.line names (forms_of block.rest.now)
  pub following : blocks_from name [] (forms_of text) ≡ (name, whole [] (forms_of text)) ∷ blocks_of (forms_of block.rest.now)
  pub found : block.found ≡ loop_of (name, whole [] (forms_of text))
  pub well_formed : IsLoop block.found
  pub past : number < block.line
  pub ends_by : block.line + length block.rest.now ≤ number + length text

-- the answer for a block whose lines have numbers from this one on
abbrev pub AnswersBlock : List ℕ → ℕ → List ℕ → Result BlockRead LoopFault → Type 0
AnswersBlock name number text (Ok block) = IsBlockRead name number text block
AnswersBlock name number text (Err fault) = UnlessMemory fault.kind fault ((names : List (List ℕ)) → first_in (inside_faults number names [] (forms_of text)) ≡ Some fault)

-- a table has these names
abbrev pub HasNames : Names → List (List ℕ) → Type 0
HasNames table names = (q : List ℕ) → is_some (known_as table q) ≡ list_any (same_word q) names

-- the answer for a line that opens a block after `loops` others
abbrev pub AnswersOpening : Names → Names → ℕ → List ℕ → Result (Unit {0}) LoopFaultKind → Type 0
AnswersOpening old new loops name (Ok done) = (names : List (List ℕ)) → HasNames old names → length names ≡ loops → (opening_faults names name ≡ []) × HasNames new (names ++ name ∷ [])
AnswersOpening old new loops name (Err kind) = (names : List (List ℕ)) → HasNames old names → length names ≡ loops → UnlessMemoryKind kind (first_in (opening_faults names name) ≡ Some kind)

-- the end of a block of so many statements, which has no fault, or its first fault
abbrev pub AnswersEnd : Option LoopFault → Stop → ℕ → Result (ℕ × Bor (List ℕ)) LoopFault → Type 0
AnswersEnd first stop statements (Ok end) = (first ≡ None) × (stop ≡ stops.End end.0 end.1) × (0 < statements)
AnswersEnd (Some first) stop statements (Err fault) = first ≡ fault
AnswersEnd None (stops.End line rest) statements (Err fault) = (statements ≡ 0) × (record { line = line; kind = Limit } ≡ fault)
AnswersEnd None (stops.Unfit line rest) statements (Err fault) = record { line = line; kind = Syntax } ≡ fault
AnswersEnd None (stops.Open line) statements (Err fault) = record { line = line; kind = NoEnd } ≡ fault

-- the loops of a text, or its first fault
abbrev pub AnswersText : List ℕ → List LoopData → Result (Unit {0}) LoopFault → Type 0
AnswersText text loops (Ok done) = (Ok loops ≡ loops_in text) × All IsLoop loops × (length loops ≤ 1024)
AnswersText text loops (Err fault) = AnswersFault fault.kind fault (loops_in text)
