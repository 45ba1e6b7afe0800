use Rattle.std.proofs.Common.{◌≡◌, ◌<◌, List, [], ◌++◌, length, get_or, ap, ◌∙◌}
use Rattle.std.proofs.lemmas.List.{get_or_default}
use Rattle.machine_data.specs.declared.alternative.Row.{Row}
use Rattle.unit_bound.specs.Units.{greatest_use}
use Rattle.unit_bound.specs.Uses.{Tallies}
use Rattle.unit_bound.proofs.Best.{best-one, best-better, best-kept, best-all}
use Rattle.unit_bound.proofs.units.Uses.best_of.Goals as goal
use Rattle.unit_bound.proofs.units.Uses.best_of.Goals.{then-greatest-least, else-greatest-least}

pub loop-number-init : goal.loop-number-init
loop-number-init c =
    let is : c.rows.result.now ≡ get_or c.args.alternatives.now 0 []
    = c.rows.ensures.value ∙ c.index-alternatives-0.is ∙ get_or_default c.args.alternatives.now 0 c.index-alternatives-0.result [] c.requires.well_formed.some in
    record {
      there = c.requires.well_formed.some;
      best = λ taken t. best-one taken c.args.alternatives.now c.greatest_with-least.result
          (c.greatest_with-least.ensures taken t ∙ ap (λ rows. greatest_use (taken ++ rows)) is);
    }

pub loop-number-preserved : goal.loop-number-preserved
loop-number-preserved c =
    let within : c.loop-number.number < length c.args.alternatives.now = c.loop-number-test.true in
    let is : c.rows-in-loop-number.result.now ≡ get_or c.args.alternatives.now c.loop-number.number []
    = c.rows-in-loop-number.ensures.value ∙ c.index-alternatives-number.is
    ∙ get_or_default c.args.alternatives.now c.loop-number.number c.index-alternatives-number.result [] within in
    let told : (taken : List Row) → Tallies taken c.args.self.now.counts c.args.self.now.greatest
    → c.greatest_with-greatest.result ≡ greatest_use (taken ++ get_or c.args.alternatives.now c.loop-number.number [])
    = λ taken t. c.greatest_with-greatest.ensures taken t ∙ ap (λ rows. greatest_use (taken ++ rows)) is in
    elim c.if-greatest-least.branch [
      | then-greatest-least w ↦ rw (w.best-is, w.least-is) (record {
        there = within;
        best = λ taken t. best-better taken c.args.alternatives.now c.loop-number.number c.loop-number.best c.loop-number.least c.greatest_with-greatest.result
            (c.loop-number.invariant.best taken t) w.if-greatest-least.true (told taken t);
      })
      | else-greatest-least w ↦ rw (w.best-is, w.least-is) (record {
        there = c.loop-number.invariant.there;
        best = λ taken t. best-kept taken c.args.alternatives.now c.loop-number.number c.loop-number.best c.loop-number.least c.greatest_with-greatest.result
            (c.loop-number.invariant.best taken t) w.if-greatest-least.false (told taken t);
      })
    ]

pub returns-clause-best : goal.returns-clause-best
returns-clause-best c = λ taken t. best-all taken c.args.alternatives.now c.loop-number.number c.loop-number.best c.loop-number.least
    (c.loop-number.invariant.best taken t) c.loop-number-test.false c.loop-number.invariant.there
