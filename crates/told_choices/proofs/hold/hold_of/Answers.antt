use Rattle.std.proofs.Common.{ap, sym, ◌∙◌, subst}
use Rattle.told_choices.specs.declared.hold.Hold.TheVariants.{Failure}
use Rattle.told_choices.specs.Holds.{IsHold, hold_after}
use Rattle.told_choices.proofs.Held.{hold-after, hold-first}
use Rattle.told_choices.proofs.hold.hold_of.Goals as goal

pub returns-in-Some-clause-value : goal.returns-in-Some-clause-value
returns-in-Some-clause-value c = ap Failure c.cause.ensures.value ∙ ap (hold_after c.args.prepared.now c.args.free) c.in-Some.ensures.value

pub returns-in-Some-clause-is : goal.returns-in-Some-clause-is
returns-in-Some-clause-is c ii low are =
    subst (λ by. IsHold c.args.prepared.now c.args.free ii (Failure by)) (sym c.cause.ensures.value)
    (hold-after c.args.prepared.now c.args.free ii c.args.reasons.now c.in-Some.reason.now low are (sym c.in-Some.ensures.value))

pub returns-in-None-clause-value : goal.returns-in-None-clause-value
returns-in-None-clause-value c = c.bound_of.ensures.value ∙ ap (hold_after c.args.prepared.now c.args.free) c.in-None.ensures.value

pub returns-in-None-clause-is : goal.returns-in-None-clause-is
returns-in-None-clause-is c ii low are = hold-first c.args.prepared.now c.args.free ii c.args.reasons.now c.bound_of.result low are (sym c.in-None.ensures.value) c.bound_of.ensures.is
