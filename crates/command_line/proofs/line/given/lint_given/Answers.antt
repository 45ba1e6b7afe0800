use Rattle.std.proofs.Common.{IfNone, Option, subst}
use Rattle.clap.specs.Words.{found_of, rows_of}
use Rattle.command_line.specs.declared.command.LintTexts.{LintTexts}
use Rattle.command_line.specs.Lines.{AreTextsGiven}
use Rattle.command_line.proofs.LineLemmas.{lint-none}
use Rattle.command_line.proofs.line.given.lint_given.Goals as goal

pub returns-in-None-clause-none : goal.returns-in-None-clause-none
returns-in-None-clause-none c = lint-none (rows_of (found_of c.args.values.now)) (subst (λ (o : Option LintTexts). IfNone o ((texts : LintTexts) → ¬ AreTextsGiven texts (rows_of (found_of c.args.values.now)))) c.in-None.is c.in_ok-texts.ensures.none)
