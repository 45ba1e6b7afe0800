use Rattle.std.proofs.Common.{Option, Some, None, IfNone, codes}
use Rattle.clap.specs.Words.{found_of, rows_of}
use Rattle.command_line.specs.declared.command.Search.{Search}
use Rattle.command_line.specs.Lines.{IsSearchGiven}
use Rattle.command_line.proofs.LineLemmas.{vary-formless, vary-unswitched}
use Rattle.command_line.proofs.line.given.vary_given.Goals as goal

pub returns-in_err-total-clause-none : goal.returns-in_err-total-clause-none
returns-in_err-total-clause-none c =
    let never = vary-unswitched (rows_of (found_of c.args.values.now)) c.in_err-total.ensures.none in
    elim c.from_residual.result as (λ (o : Option Search). IfNone o ((s : Search) → ¬ IsSearchGiven s (codes "vary") (rows_of (found_of c.args.values.now)))) [ None ↦ never | Some s ↦ tt ]

pub returns-in_err-format-clause-none : goal.returns-in_err-format-clause-none
returns-in_err-format-clause-none c =
    let never = vary-formless (rows_of (found_of c.args.values.now)) c.in_err-format.ensures.none in
    elim c.from_residual-in_err-format.result as (λ (o : Option Search). IfNone o ((s : Search) → ¬ IsSearchGiven s (codes "vary") (rows_of (found_of c.args.values.now)))) [ None ↦ never | Some s ↦ tt ]
