use Rattle.std.proofs.Common.{◌≡◌, ℕ, suc, ◌+◌, ◌*◌, ◌≤◌, sym, ◌∙◌, subst, inr, arith}
use Rattle.modulo.specs.inner.Placings.{IsPlacing}
use Rattle.modulo.specs.Scheduling.{State, LeadsTo}
use Rattle.modulo.specs.inner.Waiting.{IsByHeight}
use Rattle.modulo.proofs.states.Placing.{IsStep-from}
use Rattle.modulo.proofs.states.Stepping.{IsNext-first, AreBelow-more}
use Rattle.modulo.proofs.stepping.steps.run.Goals as goal

pub returns-in-None-clause-stops : goal.returns-in-None-clause-stops
returns-in-None-clause-stops g c = λ heights have long by. record {
  heights = heights;
  have_heights = have;
  steps = c.loop-step._step;
  within = omega arith;
  leads = c.loop-step.invariant.leads heights have long by;
  done = inr (λ q waits. c.in-None.ensures q (omega (arith, waits.there, c.loop-step.invariant.whole)) waits.unplaced);
}

pub loop-step-preserved : goal.loop-step-preserved
loop-step-preserved g c =
    let i = c.loop-step.invariant in
    let ii : ℕ = g.T.ModuloTable.interval c.args.table.now in
    let now : ℕ = g.T.ModuloTable.interval c.loop-step.table in
    let steps : ℕ = c.loop-step._step in
    let state : State = c.loop-step.progress.state in
    let next : State = c.step.new.progress.state in
    let placing : IsPlacing c.args.problem.now ii state c.in-Some.op next
    = subst (λ n. IsPlacing c.args.problem.now n state c.in-Some.op next) i.interval c.step.ensures.step in
    let le : steps * (ii + 65) + now + 65 ≤ (steps + 1) * (ii + 65) = omega (arith, i.interval) in
    record {
      leads = λ heights have long by.
          let e : suc steps ≡ steps + 1 = omega arith in
          subst (λ k. LeadsTo c.args.problem.now ii heights k next) e (
            state,
            i.leads heights have long by,
            IsStep-from c.args.problem.now ii heights state next c.in-Some.op
                (IsNext-first c.args.problem.now heights c.loop-step.progress c.in-Some.op (subst (IsByHeight heights) (sym i.order) by) long i.whole c.in-Some.ensures)
                placing,
          );
      below = AreBelow-more (steps * (ii + 65) + now + 65) ((steps + 1) * (ii + 65)) next le (c.step.ensures.grown (steps * (ii + 65)) i.below);
      whole = omega (arith, placing.whole, i.whole);
      tied = c.step.ensures.tied;
      operations = c.step.ensures.operations ∙ i.operations;
      interval = c.step.ensures.interval ∙ i.interval;
      order = c.step.ensures.order ∙ i.order;
    }
