use Rattle.std.proofs.Common.{Option, Some, None, IfNone, codes, true, false}
use Rattle.clap.specs.Words.{found_of, rows_of}
use Rattle.command_line.specs.declared.command.Report.{Report}
use Rattle.command_line.specs.Lines.{IsReportGiven}
use Rattle.command_line.proofs.LineLemmas.{dot-reports}
use Rattle.command_line.proofs.line.given.graphs_given.Goals as goal

pub returns-in_err-scheduled-clause-none : goal.returns-in_err-scheduled-clause-none
returns-in_err-scheduled-clause-none c =
    let never = dot-reports (rows_of (found_of c.args.values.now)) (c.in_err-scheduled.ensures.none false) (λ settings h. c.in_err-scheduled.ensures.none true h.0) in
    elim c.from_residual.result as (λ (o : Option Report). IfNone o ((told : Report) → ¬ IsReportGiven told (codes "dot") (rows_of (found_of c.args.values.now)))) [ None ↦ never | Some s ↦ tt ]
