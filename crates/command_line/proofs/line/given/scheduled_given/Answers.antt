use Rattle.std.proofs.Common.{Option, Some, None, IfNone, codes, true}
use Rattle.clap.specs.Words.{found_of, rows_of}
use Rattle.command_line.specs.declared.command.Search.{Search}
use Rattle.command_line.specs.Lines.{IsSearchGiven}
use Rattle.command_line.proofs.LineLemmas.{dot-searches}
use Rattle.command_line.proofs.line.given.scheduled_given.Goals as goal

pub returns-in_err-scheduled-clause-none : goal.returns-in_err-scheduled-clause-none
returns-in_err-scheduled-clause-none c =
    let never = dot-searches (rows_of (found_of c.args.values.now)) (c.in_err-scheduled.ensures.none true) in
    elim c.from_residual.result as (λ (o : Option Search). IfNone o ((s : Search) → ¬ IsSearchGiven s (codes "dot") (rows_of (found_of c.args.values.now)))) [ None ↦ never | Some s ↦ tt ]
