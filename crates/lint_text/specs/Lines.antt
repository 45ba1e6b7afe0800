-- Lines of faults: `PATH:LINE:COL: WORD: WHAT`.
use Rattle.std.specs.Prelude.{ℕ, codes, List, [], ◌∷◌, ◌++◌, flat_map}
use Rattle.writing.specs.Words.{ended, told}
use Rattle.machine_lint.specs.Hints.{declared_units}
use Rattle.machine_lint.specs.declared.place.MachineLint.{MachineLint}
use Rattle.loop_lint.specs.Lacks.{column_of, line_of, width_of}
use Rattle.loop_lint.specs.declared.lacks.LoopLint.{LoopLint}
use Rattle.lint_text.specs.Machines.{machine_message, machine_word}
use Rattle.lint_text.specs.What.{message_of}
use Rattle.lint_text.specs.Words.{line_at, piece_at, word_told}

-- a place of the text with this path
abbrev pub place_text : List ℕ → ℕ → ℕ → List ℕ
place_text path line column = ((path ++ told (codes ":") line) ++ told (codes ":") column) ++ codes ": "

-- the word of this line of a loop text that something is told of
abbrev pub word_in : List ℕ → LoopLint → List ℕ
word_in line lint = piece_at line (column_of lint) (width_of lint)

-- what is told of this line of a loop text with this path
abbrev pub lint_line : List ℕ → List ℕ → LoopLint → List ℕ
lint_line path line lint =
    (place_text path (line_of lint) (column_of lint) ++ word_told (word_in line lint)) ++ ended (message_of line (word_in line lint) lint)

-- what is told of a loop text with this path and these bytes
abbrev pub loop_text : List ℕ → List ℕ → List LoopLint → List ℕ
loop_text path text lints = flat_map (λ (lint : LoopLint). lint_line path (line_at text (line_of lint)) lint) lints

-- a word with a colon; without bytes nothing
abbrev pub text_told : List ℕ → List ℕ
text_told [] = []
text_told (c ∷ cs) = (c ∷ cs) ++ codes ": "

-- a fault of a machine text with this path that declares these units
abbrev pub machine_line : List ℕ → List (List ℕ) → MachineLint → List ℕ
machine_line path units lint = (place_text path lint.line lint.column ++ text_told (machine_word lint)) ++ ended (machine_message units lint)

-- faults of a machine text with this path and these bytes
abbrev pub machine_text : List ℕ → List ℕ → List MachineLint → List ℕ
machine_text path text lints = flat_map (machine_line path (declared_units text)) lints
