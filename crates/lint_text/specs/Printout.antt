-- What is printed of the faults of a machine text and of a loop text.
use Rattle.std.specs.Prelude.{◌≡◌, ◌↔◌, ℕ, nat_lt, false, List, [], ◌++◌, length, map, Option, Some, None, option_map, Result, Ok, Err}
use Rattle.machine_data.specs.Machines.{MachineData}
use Rattle.loop_lint.specs.Lacks.{AreToldOn, HasTables, MeansLoops, SilentWith}
use Rattle.loop_lint.specs.declared.lacks.LoopLint.{LoopLint}
use Rattle.reader_faults.specs.declared.machine.MachineFault.{MachineFault}
use Rattle.machine.specs.MachineText.{machine_of}
use Rattle.machine_lint.specs.Lints as machines
use Rattle.machine_lint.specs.declared.place.MachineLint.{MachineLint}
use Rattle.lint_text.specs.Lines.{loop_text, machine_text}
use Rattle.lint_text.specs.declared.printout.LintText.{LintText}
use Rattle.lint_text.specs.declared.printout.Named.{Named}

-- these are told of the machine text, if one is given
abbrev pub AreOfMachine : Option Named → List MachineLint → Type 0
AreOfMachine None lints = lints ≡ []
AreOfMachine (Some named) lints =
    machines.Tells named.text.now (machines.told_of named.text.now) lints
    × machines.BeginsAs (machine_of named.text.now) (map (λ (lint : MachineLint). lint.fault) lints)

-- the machine that a text means, if it means one
abbrev pub machine_read : Result MachineData MachineFault → Option MachineData
machine_read (Ok machine) = Some machine
machine_read (Err fault) = None

abbrev pub machine_in : Option Named → Option MachineData
machine_in None = None
machine_in (Some named) = machine_read (machine_of named.text.now)

-- these are told of the loop text, if one is given, on the machine that the machine text means, if one is given and means one
abbrev pub AreOfLoops : Option Named → Option Named → List LoopLint → Type 0
AreOfLoops machine None lints = lints ≡ []
AreOfLoops machine (Some named) lints = AreToldOn (machine_in machine) named.text.now lints

-- .. and nothing just where the text means loops, and that machine, if there is one, has all tables for them
abbrev pub SilentOn : Option MachineData → Option Named → List LoopLint → Type 0
SilentOn machine None lints = Unit {0}
SilentOn machine (Some named) lints = SilentWith machine named.text.now lints

-- their lines
abbrev pub machine_lines : Option Named → List MachineLint → List ℕ
machine_lines None lints = []
machine_lines (Some named) lints = machine_text named.path.now named.text.now lints

abbrev pub loop_lines : Option Named → List LoopLint → List ℕ
loop_lines None faults = []
loop_lines (Some named) faults = loop_text named.path.now named.text.now faults

-- the faults of both texts, the machine's first, and whether there are any of each
pub record IsLintText (machine loops : Option Named) (printed : LintText) : Type 0 where
  pub lints : List MachineLint
  pub faults : List LoopLint
  pub of_machine : AreOfMachine machine lints
  pub of_loops : AreOfLoops machine loops faults
  pub text : printed.text.items ≡ machine_lines machine lints ++ loop_lines loops faults
  pub machine_faults : printed.machine_faults ≡ nat_lt 0 (length lints)
  pub loop_faults : printed.loop_faults ≡ nat_lt 0 (length faults)

-- the text means a machine
pub record MeansMachine (machine : List ℕ) : Type 0 where
  pub meant : MachineData
  pub machine_read : machine_of machine ≡ Ok meant

-- both texts mean something, the machine with a table for each opcode of the loops
pub record MeansBoth (machine loops : List ℕ) : Type 0 where
  pub meant : MachineData
  pub machine_read : machine_of machine ≡ Ok meant
  pub tables : HasTables meant loops

-- a machine text and a loop text, where they are given, are in order: each means something, and a machine has a table for
-- each opcode of the loops
abbrev pub AreInOrder : Option (List ℕ) → Option (List ℕ) → Type 0
AreInOrder None None = Unit {0}
AreInOrder None (Some loops) = MeansLoops loops
AreInOrder (Some machine) None = MeansMachine machine
AreInOrder (Some machine) (Some loops) = MeansBoth machine loops

abbrev pub text_in : Option Named → Option (List ℕ)
text_in named = option_map (λ (n : Named). n.text.now) named

-- no fault is told just where the texts are in order
abbrev pub IsSilent : Option Named → Option Named → LintText → Type 0
IsSilent machine loops printed =
    ((printed.machine_faults ≡ false) × (printed.loop_faults ≡ false)) ↔ AreInOrder (text_in machine) (text_in loops)
