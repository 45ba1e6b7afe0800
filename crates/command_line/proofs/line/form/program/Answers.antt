use Rattle.std.proofs.Common.{List, subst, take_all}
use Rattle.clap.specs.Words.{App}
use Rattle.command_line.specs.Lines.{bare_line}
use Rattle.command_line.specs.declared.line.form.Subcommand.{Subcommand}
use Rattle.command_line.specs.inner.Made.{MakesProgram}
use Rattle.command_line.specs.inner.Parts.{with_subcommands}
use Rattle.command_line.proofs.LineLemmas.{with_next_subcommand}
use Rattle.command_line.proofs.line.form.program.Goals as goal

pub loop-name-preserved : goal.loop-name-preserved
loop-name-preserved c =
    subst (λ (line : App). MakesProgram line c.add-made.result) (with_next_subcommand c.args.wanted _ _ _ _ c.loop-name-test.true) (c.add-made.ensures _ c.loop-name.invariant)

pub returns : goal.returns
returns c =
    subst (λ (names : List Subcommand). MakesProgram (with_subcommands c.args.wanted bare_line names) c.loop-name.made) (take_all _ _ c.loop-name-test.false) c.loop-name.invariant
