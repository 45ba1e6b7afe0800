use Rattle.std.proofs.Common.{◌<◌, Some, length, sym, subst}
use Rattle.std.specs.List.{All}
use Rattle.loop_data.specs.Loops.{LoopData}
use Rattle.modulo.specs.declared.outcome.attempts.Culprit.{Culprit}
use Rattle.ims.specs.Culprits.{AnswersCulprit}
use Rattle.loop_schedules.specs.Problems.{budget_of}
use Rattle.explain.proofs.Reasoned.{op-there, ops-there}
use Rattle.explain.proofs.intervals.reason_texts.push_culprit.Goals as goal

pub push_named-requires : goal.push_named-requires
push_named-requires c =
    let p = c.args.prepared.now in
    let a = subst (λ (k : Culprit). AnswersCulprit p c.requires.is.0 (budget_of p) (Some k)) c.in-Blocked.is c.requires.is.1 in
    subst (λ (l : LoopData). c.in-Blocked.op < length l.statements) (sym c.innermost-innermost.ensures.value) (op-there p c.in-Blocked.op c.innermost-innermost.ensures.well_formed a.there)

pub push_late-requires : goal.push_late-requires
push_late-requires c =
    let p = c.args.prepared.now in
    let a = subst (λ (k : Culprit). AnswersCulprit p c.requires.is.0 (budget_of p) (Some k)) c.in-Late.is c.requires.is.1 in
    subst (λ (l : LoopData). c.in-Late.op < length l.statements) (sym c.innermost-innermost.ensures.value) (op-there p c.in-Late.op c.innermost-innermost.ensures.well_formed a.1.there)

pub push_all_named-requires : goal.push_all_named-requires
push_all_named-requires c =
    let p = c.args.prepared.now in
    let a = subst (λ (k : Culprit). AnswersCulprit p c.requires.is.0 (budget_of p) (Some k)) c.in-Unplaced.is c.requires.is.1 in
    subst (All (λ op. op < length c.innermost-innermost.result.now.statements)) (sym c.as_slice.ensures.value)
    (subst (λ (l : LoopData). All (λ op. op < length l.statements) c.in-Unplaced.ops.items) (sym c.innermost-innermost.ensures.value)
    (ops-there p c.requires.is.0 c.in-Unplaced.ops.items c.innermost-innermost.ensures.well_formed a.1))
