use Rattle.std.proofs.Common.{◌≡◌, ◌++◌, List, ℕ, sym, ap, ◌∙◌, subst}
use Rattle.loop_listings.specs.declared.choices.Choice.{Choice}
use Rattle.lower_bounds.specs.Faults.{lacking_in}
use Rattle.lower_bounds.proofs.Lacking.{answered}
use Rattle.explain_printouts.specs.Objects.{IsObjectOn}
use Rattle.explain_printouts.proofs.objects.object_of.Goals as goal

pub returns-in-Ok : goal.returns-in-Ok
returns-in-Ok c =
    let machine = c.args.machine.now in
    let problem = c.args.prepared.now in
    let empty : List ℕ = c.new-text.result.items in
    let text : List ℕ = c.push_prepared_json.new.text.items in
    let told = answered (lacking_in machine problem.loop) (λ (choice : Choice). (part : List ℕ) × IsObjectOn machine problem choice part × (text ≡ empty ++ part)) c.in-Ok.choice c.in-Ok.ensures.exact in
    record {
      choice = c.in-Ok.choice;
      is_object = subst (IsObjectOn machine problem c.in-Ok.choice) (sym (told.1.2 ∙ ap (λ t. t ++ told.1.0) c.new-text.ensures.items)) told.1.1;
      met = c.is_met.ensures.value;
    }
