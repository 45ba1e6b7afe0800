use Rattle.std.proofs.Common.{Option, Some, None, IfNone, codes, true, false}
use Rattle.clap.specs.Words.{found_of, rows_of}
use Rattle.command_line.specs.declared.command.Task.{Task}
use Rattle.command_line.specs.Lines.{IsTaskGiven}
use Rattle.command_line.proofs.LineLemmas.{dot-searches, dot-tasks, none-further, on-is-not-off}
use Rattle.command_line.proofs.line.given.dot_given.Goals as goal

pub returns-in_err-scheduled-clause-none : goal.returns-in_err-scheduled-clause-none
returns-in_err-scheduled-clause-none c =
    let never = dot-tasks (rows_of (found_of c.args.values.now)) (c.in_err-scheduled.ensures.none false)
    (λ settings s h. dot-searches (rows_of (found_of c.args.values.now)) (c.in_err-scheduled.ensures.none true) s h.1) in
    elim c.from_residual.result as (λ (o : Option Task). IfNone o ((t : Task) → ¬ IsTaskGiven t (codes "dot") (rows_of (found_of c.args.values.now)))) [ None ↦ never | Some t ↦ tt ]

pub returns-clause-none : goal.returns-clause-none
returns-clause-none c =
    let on = on-is-not-off (rows_of (found_of c.args.values.now)) (codes "scheduled") c.in_ok-scheduled.scheduled c.in_ok-scheduled.ensures.says c.if-not-scheduled.false in
    none-further c.searched.result (dot-tasks (rows_of (found_of c.args.values.now)) on) c.searched.ensures.none
