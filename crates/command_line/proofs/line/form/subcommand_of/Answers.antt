use Rattle.std.proofs.Common.{subst}
use Rattle.clap.specs.Words.{App}
use Rattle.command_line.specs.inner.Made.{MakesLine}
use Rattle.command_line.proofs.LineLemmas.{with_next_argument}
use Rattle.command_line.proofs.line.form.subcommand_of.Goals as goal

pub loop-argument-preserved : goal.loop-argument-preserved
loop-argument-preserved c =
    subst (λ (line : App). MakesLine line c.with-made.result) (with_next_argument _ _ _ _ c.loop-argument-test.true) (c.with-made.ensures _ c.loop-argument.invariant)
