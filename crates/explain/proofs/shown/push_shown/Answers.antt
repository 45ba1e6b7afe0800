use Rattle.std.proofs.Common.{sym, subst}
use Rattle.std.proofs.lemmas.Result.{on_ok_weaker}
use Rattle.schedule_lines.specs.ScheduleTexts.{schedule_text}
use Rattle.told_choices.specs.Told.{HasEvidence, choice_of}
use Rattle.explain.specs.Shown.{IsShown}
use Rattle.told_choices.specs.declared.chosen.Chosen.{Chosen}
use Rattle.explain.proofs.Showing.{shown-of, suits-of}
use Rattle.explain.proofs.shown.push_shown.Goals as goal

pub push_schedule-requires : goal.push_schedule-requires
push_schedule-requires c =
    let p = c.args._prepared.now in
    record { suits = suits-of p _ c.in-Met.met (subst (HasEvidence p) c.in-Met.is c.requires.evidence).is_met }

pub returns-in-Met : goal.returns-in-Met
returns-in-Met c =
    let m = c.args.machine.now in
    let p = c.args._prepared.now in
    let met = c.in-Met.met in
    let figures = c.in-Met.figures in
    let part = schedule_text m met.schedule met.allotment figures in
    record {
      ok = on_ok_weaker c.push_schedule.result
          (λ e. (
            part,
            subst (λ (chosen : Chosen). IsShown m p (choice_of chosen) part) (sym c.in-Met.is) (shown-of m p _ met figures (subst (HasEvidence p) c.in-Met.is c.requires.evidence)),
            e,
          ))
          c.push_schedule.ensures.ok;
    }
