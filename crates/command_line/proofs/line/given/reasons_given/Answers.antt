use Rattle.std.proofs.Common.{Option, Some, None, IfNone, codes}
use Rattle.clap.specs.Words.{found_of, rows_of}
use Rattle.settings.specs.declared.format.Format.TheVariants as format
use Rattle.command_line.specs.declared.command.Report.{Report}
use Rattle.command_line.specs.Lines.{IsReportGiven}
use Rattle.command_line.proofs.LineLemmas.{explain-reports}
use Rattle.command_line.proofs.line.given.reasons_given.Goals as goal

pub returns-in_err-format_given-clause-none : goal.returns-in_err-format_given-clause-none
returns-in_err-format_given-clause-none c =
    let never = explain-reports (rows_of (found_of c.args.values.now)) (λ settings says h. c.in_err-format_given.ensures.none format.Text h) in
    elim c.from_residual-in_err-format_given.result as (λ (o : Option Report). IfNone o ((told : Report) → ¬ IsReportGiven told (codes "explain") (rows_of (found_of c.args.values.now)))) [ None ↦ never | Some s ↦ tt ]
