use Rattle.std.proofs.Common.{take}
use Rattle.clap.specs.Words.{new_app}
use Rattle.command_line.specs.inner.Made.{MakesLine}
use Rattle.command_line.specs.inner.Parts.{with_arguments, word_of}
use Rattle.command_line.proofs.line.form.subcommand_of.Given as goal

-- the subcommand has the arguments that were gone over
abbrev pub invariant-loop-argument : goal.invariant-loop-argument
invariant-loop-argument l = MakesLine (with_arguments (new_app (word_of l.fn.name)) (take l.argument-index l.argument-items)) l.made
