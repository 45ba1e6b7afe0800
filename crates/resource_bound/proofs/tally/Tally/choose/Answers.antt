use Rattle.std.proofs.Common.{◌≡◌, ◌<◌, ◌≤◌, List, [], ◌++◌, length, get_or, ◌∙◌, subst, arith}
use Rattle.std.proofs.lemmas.List.{get_or_default}
use Rattle.machine_data.specs.declared.alternative.Row.{Row}
use Rattle.unit_bound.specs.Uses.{Tallies}
use Rattle.resource_bound.proofs.Best.{best_of-one, best_of-better, best_of-kept, best_of-all}
use Rattle.resource_bound.proofs.tally.Tally.choose.Goals as goal
use Rattle.resource_bound.proofs.tally.Tally.choose.Goals.{then-tally-best, else-tally-best}

pub loop-number-init : goal.loop-number-init
loop-number-init c =
    let is : c.rows.result.now ≡ get_or c.args.alternatives.now 0 []
    = c.rows.ensures.value ∙ c.index-alternatives-0.is ∙ get_or_default c.args.alternatives.now 0 c.index-alternatives-0.result [] c.requires.well_formed.some in (
      λ taken t. best_of-one taken c.args.alternatives.now c.with.result.counts c.with.result.greatest
          (subst (λ rows. Tallies (taken ++ rows) c.with.result.counts c.with.result.greatest) is (c.with.ensures.tallied taken t)),
      c.with.ensures.grown,
    )

pub loop-number-preserved : goal.loop-number-preserved
loop-number-preserved c =
    let n = c.loop-number.number in
    let within : n < length c.args.alternatives.now = c.loop-number-test.true in
    let is : c.rows-in-loop-number.result.now ≡ get_or c.args.alternatives.now n []
    = c.rows-in-loop-number.ensures.value ∙ c.index-alternatives-number.is ∙ get_or_default c.args.alternatives.now n c.index-alternatives-number.result [] within in
    let tried : (taken : List Row) → Tallies taken c.args.self.counts c.args.self.greatest
    → Tallies (taken ++ get_or c.args.alternatives.now n []) c.with-tally.result.counts c.with-tally.result.greatest
    = λ taken t. subst (λ rows. Tallies (taken ++ rows) c.with-tally.result.counts c.with-tally.result.greatest) is (c.with-tally.ensures.tallied taken t) in
    elim c.if-tally-best.branch [
      | then-tally-best w ↦ rw w.best-is (
        λ taken t. best_of-better taken c.args.alternatives.now n c.loop-number.best.number c.loop-number.best.tally.counts c.with-tally.result.counts
            c.loop-number.best.tally.greatest c.with-tally.result.greatest (c.loop-number.invariant.0 taken t) w.if-tally-best.true (tried taken t),
        c.with-tally.ensures.grown,
      )
      | else-tally-best w ↦ rw w.best-is (
        λ taken t. best_of-kept taken c.args.alternatives.now n c.loop-number.best.number c.loop-number.best.tally.counts c.with-tally.result.counts
            c.loop-number.best.tally.greatest c.with-tally.result.greatest (c.loop-number.invariant.0 taken t) w.if-tally-best.false (tried taken t),
        c.loop-number.invariant.1,
      )
    ]

pub returns-clause-best : goal.returns-clause-best
returns-clause-best c = λ taken t.
    best_of-all taken c.args.alternatives.now c.loop-number.number c.loop-number.best.number c.loop-number.best.tally.counts c.loop-number.best.tally.greatest
    (c.loop-number.invariant.0 taken t)
    (let past : length c.args.alternatives.now ≤ c.loop-number.number = c.loop-number-test.false in
    let some : 0 < length c.args.alternatives.now = c.requires.well_formed.some in
    let end : c.loop-number.number ≤ length c.args.alternatives.now = c.loop-number.auto.number-end some in
    omega arith)
