use Rattle.std.proofs.Common.{◌∙◌, ℕ, Bool, List, sym, subst, ap, arith, of_calls, rules}
use Rattle.std.specs.List.{list_all}
use Rattle.scheduled_printouts.specs.Graphs.{AreDrawn}
use Rattle.text_parts.specs.declared.part.Part.{Part}
use Rattle.text_parts.specs.Parts.{met_of}
use Rattle.side_by_side.proofs.Scheduling.{drawn_parts}
use Rattle.side_by_side.proofs.commands.scheduling.drawn_by.Goals as goal

pub returns : goal.returns
returns g c ratio ceiling machine loops are =
    let problems = c.args.prepared.now in
    let parts = c.in_ok-parts.parts.items in
    let made = c.in_ok-parts.ensures in
    let drawn = drawn_parts problems parts (made.each ∙ c.requires.each) (λ k p part h. let told = made.made k part (omega (arith, c.requires.each, h)) in search (rules, of_calls, told)) in
    let met = c.new.ensures.all_met ∙ (c.are_met-all_met.ensures ∙ ap (λ (ps : List Part). list_all met_of ps) c.as_slice.ensures.value) in
    let text = c.new.ensures.text ∙ c.in_ok-text.ensures in
    record {
      problems = problems;
      each_problem = are;
      drawn = subst (λ (m : Bool). AreDrawn problems c.new.result.text m) (sym met) (subst (λ (t : List ℕ). AreDrawn problems t (list_all met_of parts)) (sym text) drawn);
    }
