-- The places stand in one word, or in two side by side.
use Rattle.std.proofs.Common.{◌≡◌, ◌+◌, ◌*◌, ◌/◌, ◌%◌, ◌-◌, inl, inr, get_or, sym, ap, ◌∙◌, arith}
use Rattle.std.specs.Int.{bit_at}
use Rattle.std.proofs.lemmas.Bool.{cases_lt}
use Rattle.mrt.proofs.slots.Timing.{bit_across_low, bit_across_high}
use Rattle.mrt.proofs.words.times.sixty_four.Goals as goal

pub returns : goal.returns
returns c k lt =
    let times = c.args.times.now in
    let row = c.args.unit * c.args.words in
    let place = c.args.place in
    let first = row + place / 64 in
    let shift = place % 64 in
    let low = get_or times first 0 in
    let high = get_or times (first + 1) 0 in
    rw (c.from-2.ensures, c.from-3.ensures, c.from-4.ensures, c.from.ensures) (elim (cases_lt (shift + k) 64) [
      | inl near ↦
          let word : (place + k) / 64 ≡ place / 64 = omega arith in
          let bit : (place + k) % 64 ≡ shift + k = omega arith in
          bit_across_low low high shift k (c.type_inv.times (first + 1)).fits lt near ∙ sym (ap (λ q. bit_at (get_or times (row + q) 0) ((place + k) % 64)) word ∙ ap (λ j. bit_at low j) bit)
      | inr far ↦
          let word : row + (place + k) / 64 ≡ first + 1 = omega arith in
          let bit : (place + k) % 64 ≡ shift + k - 64 = omega arith in
          bit_across_high low high shift k (c.type_inv.times first).fits (c.type_inv.times (first + 1)).fits lt far
          ∙ sym (ap (λ q. bit_at (get_or times q 0) ((place + k) % 64)) word ∙ ap (λ j. bit_at high j) bit)
    ])
