-- Eight cycles more are passed, or the first in which no slot is held is among them.
use Rattle.std.proofs.Common.{◌≡◌, ℕ, ◌+◌, ◌*◌, Bool, sym, ap, ◌∙◌, arith}
use Rattle.mrt.specs.inner.Slots.{rows_in, meets_held}
use Rattle.mrt.specs.inner.Masks.{is_held}
use Rattle.mrt.proofs.searching.Searching.{met_until}
use Rattle.mrt.proofs.words.masks.first_of_eights.Goals as goal

pub loop-eight-preserved : goal.loop-eight-preserved
loop-eight-preserved c time sooner base lt =
    let M : ℕ → Bool = meets_held c.args.ii (is_held c.args.words.now) (rows_in c.args.slots.now) in
    let passed : ℕ = 8 * c.loop-eight.eight in
    met_until M time passed 8 (λ k lk. c.loop-eight.invariant time k base lk)
    (λ k lk. c.first_of_eight-first.ensures.met (time + passed) k (sym (c.later.ensures.value time base)) (omega (arith, lk, c.if-first-lt8.false)))
    sooner (omega (arith, lt))

pub returns-then-first-lt8 : goal.returns-then-first-lt8
returns-then-first-lt8 c time base =
    let M : ℕ → Bool = meets_held c.args.ii (is_held c.args.words.now) (rows_in c.args.slots.now) in
    let passed : ℕ = 8 * c.loop-eight.eight in
    let first : ℕ = c.first_of_eight-first.result in
    let whole : time + passed + first ≡ time + (passed + first) = omega arith in
    let at = sym (c.later.ensures.value time base) in (
      (omega (arith, c.if-first-lt8.true)),
      sym (ap M whole) ∙ c.first_of_eight-first.ensures.unmet (time + passed) at c.if-first-lt8.true,
      λ sooner lt. met_until M time passed first (λ k lk. c.loop-eight.invariant time k base lk) (λ k lk. c.first_of_eight-first.ensures.met (time + passed) k at lk) sooner lt,
    )

pub returns : goal.returns
returns c time base sooner lt = c.loop-eight.invariant time sooner base (omega (arith, lt))
