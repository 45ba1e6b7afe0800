use Rattle.std.proofs.Common.{subst}
use Rattle.clap.specs.Words.{Rule, with_rule}
use Rattle.command_line.specs.inner.Made.{MakesLine}
use Rattle.command_line.proofs.LineLemmas.{adds}
use Rattle.command_line.proofs.line.form.with.Goals as goal

pub returns : goal.returns
returns c line has =
    subst (λ (rule : Rule). MakesLine (with_rule line rule) c.arg.result) c.arg_of.ensures.rule
    (adds c.in_ok-made.field-0 c.arg_of.result c.in_ok-made.was c.arg.ensures c.arg_of.ensures.local has)
