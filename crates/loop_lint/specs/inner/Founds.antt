-- The faults of a line as they are found: for each kind the word that the fault is about, where the line has it.
use Rattle.std.specs.Prelude.{◌≡◌, ℕ, List, [], ◌∷◌, ◌++◌, Option, Some, None}
use Rattle.loop_lines.specs.Forms.{Form}
use Rattle.loop_lines.specs.Parsed.{use_seen}
use Rattle.loop_lines.specs.declared.form.Use as code
use Rattle.loop_reader.specs.Meaning.{faults_of}
use Rattle.reader_faults.specs.declared.loops.LoopFaultKind.{LoopFaultKind}
use Rattle.reader_faults.specs.declared.loops.LoopFaultKind.TheVariants.{Limit, RepeatedName, UnknownName, UseBeforeDefinition, MissingInit}
use Rattle.loop_lint.specs.Lints.{fault_at, told}
use Rattle.loop_lint.specs.Parts.{AUse, PartAt, word_of_fault}
use Rattle.loop_lines.specs.Columns.{Placed}
use Rattle.loop_lint.specs.Words.{spot_at}
use Rattle.loop_lint.specs.declared.fault.Hint.{Hint}
use Rattle.loop_lint.specs.declared.fault.LintFault.{LintFault}
use Rattle.loop_lint.specs.declared.tell.Found.{Found}

abbrev pub told_if : ℕ → List Placed → (LoopFaultKind → ℕ → Hint) → LoopFaultKind → Option ℕ → List LintFault
told_if line words hint kind None = []
told_if line words hint kind (Some word) = fault_at line kind (spot_at words word) (hint kind word) ∷ []

abbrev pub told_all : ℕ → List Placed → (LoopFaultKind → ℕ → Hint) → Found → List LintFault
told_all line words hint found =
    told_if line words hint Limit found.limit
    ++ (told_if line words hint RepeatedName found.repeated
    ++ (told_if line words hint UnknownName found.unknown
    ++ (told_if line words hint UseBeforeDefinition found.early
    ++ told_if line words hint MissingInit found.missing)))

-- these are the faults of a standing line after others, in its block
pub record AreFound (before block : List Form) (bytes : List (List ℕ)) (form : Form) (found : Found) : Type 0 where
  pub same : (line : ℕ) (words : List Placed) (hint : LoopFaultKind → ℕ → Hint)
      → told_all line words hint found ≡ told line words hint (word_of_fault before block bytes form) (faults_of before block form)

-- the part that a use is
abbrev pub use_part : ℕ → Option code.Use → List PartAt
use_part word None = []
use_part word (Some u) = record { word = word; part = AUse (use_seen u) } ∷ []
