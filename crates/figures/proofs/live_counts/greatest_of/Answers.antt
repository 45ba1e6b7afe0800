use Rattle.std.proofs.Common.{max, take, get_or, sym, ap, ◌∙◌}
use Rattle.std.proofs.lemmas.List.{take_more}
use Rattle.unit_bound.specs.Units.{greatest_of}
use Rattle.unit_bound.proofs.Most.{greater}
use Rattle.unit_bound.proofs.Tally.{greatest_of-push}
use Rattle.figures.proofs.live_counts.greatest_of.Goals as goal

pub loop-count-preserved : goal.loop-count-preserved
loop-count-preserved c =
    let counts = c.args.counts.now in
    let i = c.loop-count.count-index in
    c.max-greatest.ensures ∙ greater c.loop-count.greatest (get_or counts i 0) ∙ ap (λ g. max g (get_or counts i 0)) c.loop-count.invariant
    ∙ sym (greatest_of-push (take i counts) (get_or counts i 0)) ∙ ap greatest_of (sym (take_more counts i 0 c.loop-count-test.true))
