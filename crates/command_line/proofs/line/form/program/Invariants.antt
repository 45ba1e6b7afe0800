use Rattle.std.proofs.Common.{take}
use Rattle.command_line.specs.Lines.{bare_line}
use Rattle.command_line.specs.declared.line.form.TheConstants.{SUBCOMMANDS}
use Rattle.command_line.specs.inner.Made.{MakesProgram}
use Rattle.command_line.specs.inner.Parts.{with_subcommands}
use Rattle.command_line.proofs.line.form.program.Given as goal

-- the line has the subcommands that were gone over
abbrev pub invariant-loop-name : goal.invariant-loop-name
invariant-loop-name l = MakesProgram (with_subcommands l.wanted bare_line (take l.name-index SUBCOMMANDS)) l.made
