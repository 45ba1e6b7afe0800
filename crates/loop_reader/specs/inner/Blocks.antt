-- The lines of a block as the reader keeps them, and what it asks of them.
use Rattle.std.specs.Prelude.{◌≡◌, ℕ, ◌+◌, ◌≤◌, Bool, if◌then◌else◌, List, [], ◌∷◌, ◌++◌, length, map, take, Option, Some, None}
use Rattle.std.specs.Borrow.{Bor}
use Rattle.machine_data.specs.Opcodes.{same_word}
use Rattle.loop_lines.specs.Forms.{Form, EndLine}
use Rattle.loop_reader.specs.Meaning as meaning
use Rattle.loop_reader.specs.Meaning.{declared, declared_by, how_many, is_array, is_param, is_statement, at_line, faults_of, whole, inside_faults, outside_faults, blocks_from, blocks_of, forms_of}
use Rattle.loop_lines.specs.Parsed.{form_seen}
use Rattle.loop_reader.specs.Declarations.{declared_seen}
use Rattle.loop_reader.specs.declared.lines.collect.Stop.{Stop}
use Rattle.loop_reader.specs.declared.lines.collect.Stop.TheVariants as stops
use Rattle.loop_reader.specs.declared.lines.entry.LineEntry.{LineEntry}
use Rattle.reader_faults.specs.declared.loops.LoopFault.{LoopFault}
use Rattle.reader_faults.specs.declared.loops.LoopFaultKind.TheVariants.{Syntax, NoEnd}
use Rattle.loop_reader.specs.declared.names.index.Counts.{Counts}
use Rattle.loop_reader.specs.declared.names.index.Declared.{Declared}

-- the forms of lines
abbrev pub forms_in : List LineEntry → List Form
forms_in entries = map (λ (e : LineEntry). form_seen e.form) entries

-- what a name stands for where it is the one that is declared
abbrev pub declared_if : List ℕ → Option (Bor (List ℕ) × Declared) → Option meaning.Declared
declared_if q None = None
declared_if q (Some declaration) = if same_word q declaration.0.now then Some (declared_seen declaration.1) else None

abbrev pub one_if : Bool → ℕ
one_if b = if b then 1 else 0

-- the faults of standing lines after others, in a block
abbrev pub entry_faults : List Form → List Form → List LineEntry → List LoopFault
entry_faults block before [] = []
entry_faults block before (entry ∷ entries) =
    at_line entry.line (faults_of before block (form_seen entry.form)) ++ entry_faults block (before ++ form_seen entry.form ∷ []) entries

-- where the lines that stand in a block stop: the faults of the lines from this number on are those of the standing lines and then
-- those of the line where they stop and of what follows
abbrev pub StopsAt : ℕ → List (Option Form) → List LineEntry → Stop → Type 0
StopsAt number lines entries (stops.End line rest) =
    (whole [] lines ≡ forms_in entries)
    × ((names : List (List ℕ)) → inside_faults number names [] lines
    ≡ entry_faults (forms_in entries) [] entries ++ (at_line line (faults_of (forms_in entries) (forms_in entries) EndLine) ++ outside_faults (line + 1) names (forms_of rest.now)))
    × ((name : List ℕ) → blocks_from name [] lines ≡ (name, forms_in entries) ∷ blocks_of (forms_of rest.now))
StopsAt number lines entries (stops.Unfit line rest) =
    (whole [] lines ≡ whole (forms_in entries) (forms_of rest.now))
    × ((names : List (List ℕ)) → (others : List LoopFault) × (inside_faults number names [] lines
    ≡ entry_faults (whole [] lines) [] entries ++ record { line = line; kind = Syntax } ∷ others))
StopsAt number lines entries (stops.Open line) =
    (whole [] lines ≡ forms_in entries)
    × ((names : List (List ℕ)) → inside_faults number names [] lines ≡ entry_faults (forms_in entries) [] entries ++ at_line line (NoEnd ∷ []))

-- the line where they stop and the text after it are within this bound
abbrev pub EndsBy : ℕ → Stop → Type 0
EndsBy bound (stops.End line rest) = line + 1 + length rest.now ≤ bound
EndsBy bound (stops.Unfit line rest) = line + 1 + length rest.now ≤ bound
EndsBy bound (stops.Open line) = line ≤ bound

-- how many lines of each form there are
pub record IsCounts (block : List Form) (counts : Counts) : Type 0 where
  pub arrays : counts.arrays ≡ how_many is_array block
  pub params : counts.params ≡ how_many is_param block
  pub statements : counts.statements ≡ how_many is_statement block

-- the line stands in a block after the lines that `counts` counts
abbrev pub IsLineIn : List Form → Counts → Form → Type 0
IsLineIn block counts form = (before : List Form) × (after : List Form) × (block ≡ before ++ form ∷ after) × IsCounts before counts

-- a line of a block declares the name as this
abbrev pub IsDeclaredIn : List Form → List ℕ → meaning.Declared → Type 0
IsDeclaredIn block name what = (counts : Counts) × (form : Form) × IsLineIn block counts form × (declared_by name counts.arrays counts.params counts.statements form ≡ Some what)

-- no name is declared twice: each declaration is the first of its name
abbrev pub DeclaresOnce : List Form → Type 0
DeclaresOnce block = (name : List ℕ) (what : meaning.Declared) → IsDeclaredIn block name what → declared block name ≡ Some what

-- the same for a whole block, of which the lines up to this many stand before the line where they stop
abbrev pub StopsBlock : ℕ → List (Option Form) → List LineEntry → ℕ → Stop → Type 0
StopsBlock number lines entries sound (stops.End line rest) =
    (sound ≡ length entries)
    × ((names : List (List ℕ)) → inside_faults number names [] lines
    ≡ entry_faults (forms_in entries) [] (take sound entries) ++ (at_line line (faults_of (forms_in entries) (forms_in entries) EndLine) ++ outside_faults (line + 1) names (forms_of rest.now)))
    × ((name : List ℕ) → blocks_from name [] lines ≡ (name, forms_in entries) ∷ blocks_of (forms_of rest.now))
StopsBlock number lines entries sound (stops.Unfit line rest) =
    (names : List (List ℕ)) → (others : List LoopFault) × (inside_faults number names [] lines
    ≡ entry_faults (forms_in entries) [] (take sound entries) ++ record { line = line; kind = Syntax } ∷ others)
StopsBlock number lines entries sound (stops.Open line) =
    (names : List (List ℕ)) → inside_faults number names [] lines ≡ entry_faults (forms_in entries) [] (take sound entries) ++ at_line line (NoEnd ∷ [])

-- the line where they stop is none before this one
abbrev pub IsPast : ℕ → Stop → Type 0
IsPast number (stops.End line rest) = number ≤ line
IsPast number (stops.Unfit line rest) = number ≤ line
IsPast number (stops.Open line) = number ≤ line
