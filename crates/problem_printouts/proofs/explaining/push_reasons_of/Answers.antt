use Rattle.std.proofs.Common.{◌∙◌, refl, subst}
use Rattle.problem_reasons.specs.Reasons.{AreReasons}
use Rattle.problem_printouts.proofs.Answered.{if-ok}
use Rattle.problem_printouts.proofs.explaining.push_reasons_of.Goals as goal

pub returns : goal.returns
returns c =
    let made = c.in_ok-problem.problem in
    if-ok c.push_reasons.result c.push_reasons.ensures.told (λ met told. record {
      answer = record { text = told.0; met = met };
      is = record {
        made = made;
        is_made = c.in_ok-problem.ensures;
        are_reasons = subst (λ name. AreReasons name made met told.0) (c.as_str.ensures.value ∙ c.name.ensures) told.1;
      };
      is_text = told.2;
      same_met = refl;
    })
