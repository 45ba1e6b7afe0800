-- 64 cycles more are passed, or the first in which no slot is held is among them.
use Rattle.std.proofs.Common.{◌≡◌, ℕ, ◌+◌, ◌-◌, ◌%◌, Bool, sym, ap, ◌∙◌, arith, w64}
use Rattle.std.specs.Int.{bit_at}
use Rattle.std.proofs.lemmas.Nat.Bits.{bit_at-trailing_zeros, bit_at-zero}
use Rattle.std.proofs.Math.Nat.{mod-add-mod}
use Rattle.mrt.specs.inner.Slots.{rows_in, meets_held}
use Rattle.mrt.proofs.searching.Searching.{met_until, met_from_bit, unmet_from_bit}
use Rattle.mrt.proofs.words.times.first_unheld.Goals as goal

pub returns-then-free-ne0-clause-met : goal.returns-then-free-ne0-clause-met
returns-then-free-ne0-clause-met c held time sooner tell base lt =
    let M : ℕ → Bool = meets_held c.args.ii held (rows_in c.args.slots.now) in
    let i = c.loop-passed.invariant in
    let passed : ℕ = c.loop-passed.passed in
    let free = c.free_cycles-free.result in
    let low = bit_at-trailing_zeros w64 free (omega (arith, c.if-free-ne0.true)) c.free_cycles-free.type_inv in
    met_until M time passed (c.min.result - passed) (λ k lk. i.met held time k tell base lk (omega (arith, lk, c.loop-passed-test.true)))
    (λ k lk.
    let before = low.2 k (omega (arith, c.from.ensures, lk, c.min.ensures)) in
    met_from_bit free k _ (c.free_cycles-free.ensures.asked held (time + passed) k tell (i.at time base) (omega (arith, c.from.ensures, lk, low.0, c.min.ensures)) (omega (arith, lk, c.min.ensures))) (λ one. omega (arith, before, one)))
    sooner (omega (arith, lt, c.min.ensures))

pub returns-then-free-ne0-clause-unmet : goal.returns-then-free-ne0-clause-unmet
returns-then-free-ne0-clause-unmet c held time tell base lt =
    let M : ℕ → Bool = meets_held c.args.ii held (rows_in c.args.slots.now) in
    let i = c.loop-passed.invariant in
    let passed : ℕ = c.loop-passed.passed in
    let free = c.free_cycles-free.result in
    let low = bit_at-trailing_zeros w64 free (omega (arith, c.if-free-ne0.true)) c.free_cycles-free.type_inv in
    let first : bit_at free c.from.result ≡ 1 = ap (λ k. bit_at free k) c.from.ensures ∙ low.1 in
    let whole : time + passed + c.from.result ≡ time + c.min.result = omega (arith, lt, c.min.ensures) in
    sym (ap M whole) ∙ unmet_from_bit free c.from.result _ (c.free_cycles-free.ensures.asked held (time + passed) c.from.result tell (i.at time base) (omega (arith, c.from.ensures, low.0)) (omega (arith, lt, c.min.ensures))) first

pub loop-passed-preserved : goal.loop-passed-preserved
loop-passed-preserved c =
    let i = c.loop-passed.invariant in
    let passed : ℕ = c.loop-passed.passed in
    let ii = c.args.ii in
    let free = c.free_cycles-free.result in
    record {
      below = omega (arith, i.below);
      at = λ time base.
          let whole : time + (passed + 64) ≡ time + passed + 64 = omega arith in
          ap (λ n. n % ii) whole ∙ sym (mod-add-mod (time + passed) ii 64) ∙ ap (λ n. (n + 64) % ii) (i.at time base);
      met = λ held time sooner tell base lt asked.
          let M : ℕ → Bool = meets_held ii held (rows_in c.args.slots.now) in
          met_until M time passed (sooner + 1 - passed) (λ k lk. i.met held time k tell base lk (omega (arith, lk, c.loop-passed-test.true)))
          (λ k lk. met_from_bit free k _ (c.free_cycles-free.ensures.asked held (time + passed) k tell (i.at time base) (omega (arith, lk, lt)) (omega (arith, lk, asked)))
          (λ one. omega (arith, sym one ∙ ap (λ n. bit_at n k) c.if-free-ne0.false ∙ bit_at-zero k)))
          sooner (omega arith);
    }

pub returns-clause-met : goal.returns-clause-met
returns-clause-met c held time sooner tell base lt = c.loop-passed.invariant.met held time sooner tell base (omega (arith, lt, c.loop-passed-test.false)) lt
