use Rattle.told_choices.specs.Told.{choice_of}
use Rattle.explain.proofs.Parts.{told-of}
use Rattle.explain.proofs.file.push_part.Goals as goal

pub push_shown-requires : goal.push_shown-requires
push_shown-requires c = record { evidence = c.in_ok-told.ensures.told.has_evidence }

pub returns : goal.returns
returns c = record {
  exact = told-of c.args.machine.now c.as_slice-lines.result.now c.args.units.now.text.items c.args.units.now.set.need c.args.prepared.now c.into_choice.result (choice_of c.in_ok-told.told.chosen)
      c.args.text.now.items c.push_chosen.new.text.items c.push_shown.new.text.items c.as_slice-lines.ensures.value c.into_choice.ensures.value c.in_ok-push_chosen.ensures.ok
      c.in_ok-push_shown.ensures.ok;
}
