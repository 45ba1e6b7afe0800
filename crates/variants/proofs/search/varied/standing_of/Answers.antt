use Rattle.std.proofs.Common.{◌≡◌, ◌+◌, ◌-◌, ℕ, vec_len, subst, arith}
use Rattle.std.specs.Prelude.{Option, Some}
use Rattle.loop_schedules.specs.Problems.{mii_of}
use Rattle.variants.specs.Intervals.{IsIntervalOf, IsLeastNumber}
use Rattle.variants.specs.inner.Tries.{IsCovered, with_registers}
use Rattle.variants.proofs.search.varied.standing_of.Goals as goal

pub returns-in_ok-number-in-Some-clause-exact : goal.returns-in_ok-number-in-Some-clause-exact
returns-in_ok-number-in-Some-clause-exact c =
    let m = c.args.machine.now in
    let p = c.args.prepared.now in
    let ii = c.in-Some.ii in
    let own : IsIntervalOf p c.in_ok-ii.field-0 = subst (λ n. IsIntervalOf (with_registers n p) c.in_ok-ii.field-0) c.registers.ensures.value c.in_ok-ii.ensures.exact in
    let covered : IsCovered p (Some ii) (vec_len c.interval_with.new.tries) = subst (λ (o : Option ℕ). IsCovered p o (vec_len c.interval_with.new.tries)) c.in-Some.is c.in_ok-ii.ensures.there in
    let least = covered.0 in
    let same = c.mii.ensures.value in
    let at : mii_of p + (ii - c.mii.result) ≡ ii = omega arith in
    (subst (IsIntervalOf p) c.in-Some.is own, subst (λ n. IsLeastNumber m p n c.in_ok-number-in-Some.number) at c.in_ok-number-in-Some.ensures)
