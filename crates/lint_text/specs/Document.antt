-- The faults of a machine text and of a loop text as a JSON document.
use Rattle.std.specs.Prelude.{◌≡◌, ℕ, nat_lt, codes, List, [], ◌++◌, length, map, Option, Some, None}
use Rattle.serde_json.specs.Data.{Data, number, string, array, object, unsigned, member, no_members}
use Rattle.serde_json.specs.View.{items_of}
use Rattle.serde_json.specs.Written.{compact_text}
use Rattle.loop_lint.specs.Lacks.{column_of, line_of}
use Rattle.loop_lint.specs.declared.lacks.LoopLint.{LoopLint}
use Rattle.machine_lint.specs.Hints.{declared_units}
use Rattle.machine_lint.specs.declared.place.MachineLint.{MachineLint}
use Rattle.lint_text.specs.Lines.{word_in}
use Rattle.lint_text.specs.Machines.{machine_message, machine_word}
use Rattle.lint_text.specs.Printout.{AreOfLoops, AreOfMachine}
use Rattle.lint_text.specs.What.{message_of}
use Rattle.lint_text.specs.Words.{line_at, shown}
use Rattle.lint_text.specs.declared.printout.LintText.{LintText}
use Rattle.lint_text.specs.declared.printout.Named.{Named}

-- a fault; the members stand in the order of their keys
abbrev pub fault_value : List ℕ → ℕ → ℕ → List ℕ → List ℕ → Data
fault_value path line column word message =
    object (member (codes "column") (number (unsigned column))
    (member (codes "line") (number (unsigned line))
    (member (codes "message") (string message)
    (member (codes "path") (string path)
    (member (codes "word") (string word) no_members)))))

-- a fault of a machine text with this path that declares these units
abbrev pub machine_value : List ℕ → List (List ℕ) → MachineLint → Data
machine_value path units lint = fault_value path lint.line lint.column (machine_word lint) (machine_message units lint)

-- what is told of this line of a loop text with this path
abbrev pub line_value : List ℕ → List ℕ → LoopLint → Data
line_value path line lint = fault_value path (line_of lint) (column_of lint) (shown (word_in line lint)) (message_of line (word_in line lint) lint)

abbrev pub loop_value : List ℕ → List ℕ → LoopLint → Data
loop_value path text lint = line_value path (line_at text (line_of lint)) lint

-- the faults of each text, if it is given
abbrev pub machine_values : Option Named → List MachineLint → List Data
machine_values None lints = []
machine_values (Some named) lints = map (machine_value named.path.now (declared_units named.text.now)) lints

abbrev pub loop_values : Option Named → List LoopLint → List Data
loop_values None faults = []
loop_values (Some named) faults = map (loop_value named.path.now named.text.now) faults

-- the document of both, on one line without blanks
unfoldable pub document_text : List Data → List ℕ
document_text faults = compact_text (object (member (codes "faults") (array (items_of faults)) no_members)) ++ codes "\n"

-- the faults of both texts, the machine's first, and whether there are any of each
pub record IsLintDocument (machine loops : Option Named) (printed : LintText) : Type 0 where
  pub lints : List MachineLint
  pub faults : List LoopLint
  pub of_machine : AreOfMachine machine lints
  pub of_loops : AreOfLoops machine loops faults
  pub text : printed.text.items ≡ document_text (machine_values machine lints ++ loop_values loops faults)
  pub machine_faults : printed.machine_faults ≡ nat_lt 0 (length lints)
  pub loop_faults : printed.loop_faults ≡ nat_lt 0 (length faults)
