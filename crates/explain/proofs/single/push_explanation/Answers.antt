use Rattle.std.proofs.Common.{◌≡◌, ◌++◌, ℕ, List, sym, subst}
use Rattle.loop_listings.specs.declared.choices.Choice.{Choice}
use Rattle.explain.specs.Explanations.{IsExplained}
use Rattle.explain.proofs.single.push_explanation.Goals as goal

pub returns : goal.returns
returns c = record {
  exact = subst (λ (choice : Choice). (part : List ℕ) × IsExplained c.args.units.now c.args.need c.args.prepared.now choice part × (c.push_chosen.new.text.items ≡ c.args.text.now.items ++ part))
      (sym c.into_choice.ensures.value) c.in_ok-push_chosen.ensures.ok;
}
