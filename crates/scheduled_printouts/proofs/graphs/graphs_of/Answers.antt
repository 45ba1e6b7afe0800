use Rattle.std.proofs.Common.{◌++◌, ℕ, Bool, List, sym, ap, ◌∙◌, subst}
use Rattle.scheduled_printouts.specs.Graphs.{AreDrawn}
use Rattle.scheduled_printouts.proofs.graphs.graphs_of.Goals as goal

pub returns : goal.returns
returns c =
    let drawn = c.in_ok-all_met.ensures in
    let same = c.new.ensures.text ∙ drawn.2 ∙ ap (λ (t : List ℕ). t ++ drawn.0) c.new-text.ensures.items in
    subst (λ (m : Bool). AreDrawn c.args.prepared.now c.new.result.text m) (sym c.new.ensures.all_met)
    (subst (λ (t : List ℕ). AreDrawn c.args.prepared.now t c.in_ok-all_met.all_met) (sym same) drawn.1)
