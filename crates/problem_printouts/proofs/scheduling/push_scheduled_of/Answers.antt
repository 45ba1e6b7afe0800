use Rattle.std.proofs.Common.{◌∙◌, refl, subst}
use Rattle.problem_graphs.specs.Scheduled.{IsScheduledText}
use Rattle.problem_printouts.proofs.scheduling.push_scheduled_of.Goals as goal

pub returns : goal.returns
returns c =
    let made = c.in_ok-problem.problem in
    let outcome = c.in_ok-outcome.outcome in
    let part = c.in_ok-push_scheduled.ensures.ok in
    record {
      answer = record { text = part.0; met = c.is_met.result };
      is = record {
        made = made;
        is_made = c.in_ok-problem.ensures;
        outcome = outcome;
        is_outcome = c.in_ok-outcome.ensures.exact;
        is_text = subst (λ name. IsScheduledText name made outcome part.0) (c.as_str.ensures.value ∙ c.name.ensures) part.1;
        same_met = c.is_met.ensures;
      };
      is_text = part.2;
      same_met = refl;
    }
