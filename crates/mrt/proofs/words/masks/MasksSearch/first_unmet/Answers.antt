use Rattle.std.proofs.Common.{◌≡◌, ℕ, ◌+◌, Bool, true, sym, ◌∙◌, below_more, arith}
use Rattle.std.proofs.Math.Nat.{mod-eq_of_lt}
use Rattle.mrt.specs.inner.Slots.{rows_in, meets_held}
use Rattle.mrt.specs.inner.Masks.{is_held}
use Rattle.mrt.proofs.words.masks.MasksSearch.first_unmet.Goals as goal

pub returns-in-Some-clause-few : goal.returns-in-Some-clause-few
returns-in-Some-clause-few c = omega (arith, (c.in-Some.ensures c.args.base (mod-eq_of_lt c.requires.base)).0)

pub loop-cycle-preserved : goal.loop-cycle-preserved
loop-cycle-preserved c time sooner base lt =
    let M : ℕ → Bool = meets_held c.args.ii (is_held c.args.words.now) (rows_in c.args.slots.now) in
    let cycle : ℕ = c.loop-cycle.cycle in
    below_more (λ s. M (time + s) ≡ true) cycle (λ s ls. c.loop-cycle.invariant time s base ls)
    (sym (c.is_met.ensures (time + cycle) (sym (c.later.ensures.value time base))) ∙ c.if-not-is_met.false) sooner lt
