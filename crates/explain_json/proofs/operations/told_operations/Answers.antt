use Rattle.std.proofs.Common.{length, ap, ◌∙◌, subst}
use Rattle.loop_schedules.specs.Problems.{ProblemData}
use Rattle.told_choices.specs.Told.{HasEvidence}
use Rattle.told_choices.specs.declared.chosen.Chosen.{Chosen}
use Rattle.explain_json.proofs.operations.told_operations.Goals as goal

pub told_scheduled-requires : goal.told_scheduled-requires
told_scheduled-requires c =
    let is = subst (λ (chosen : Chosen). HasEvidence c.args.prepared.now chosen) c.in-Met.is c.requires.evidence in
    record { each = c.requires.each; each_slack = ap length c.as_slice-slacks.ensures.value ∙ is.are_figures.slacks.each ∙ ap (λ (p : ProblemData). length p.operations) is.is_met.is_schedule.2; same = is.is_met.is_schedule.2 }
