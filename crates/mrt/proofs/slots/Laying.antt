-- How the bits of units stand in words and timelines.
use Rattle.std.proofs.Common.{◌≡◌, ◌≢◌, ℕ, ◌+◌, ◌*◌, ◌/◌, ◌%◌, ◌<◌, ◌≤◌, inl, inr, Bool, true, false, ◌&&◌, cond, eqb, List, length, get_or, replicate, refl, sym, ap, ◌∙◌, arith}
use Rattle.std.specs.Int.{bit_at}
use Rattle.std.proofs.lemmas.Bool.{cases_lt, ne_eqb}
use Rattle.std.proofs.lemmas.Nat.Bits.{bit_at-zero}
use Rattle.std.proofs.lemmas.List.{get_or-replicate, length-replicate}
use Rattle.std.proofs.Math.Nat.{mod-eq_of_lt}
use Rattle.mrt.specs.inner.Times.{is_set, is_on, AreTimes}
use Rattle.mrt.specs.inner.Masks.{AreMasks}
use Rattle.mrt.proofs.slots.Owning.{place_below}

pub no_bit : (n place bit : ℕ) → place < n → eqb (bit_at (get_or (replicate n 0) place 0) bit) 1 ≡ false
no_bit n place bit lt = ap (λ w. eqb (bit_at w bit) 1) (get_or-replicate n place 0 0 lt) ∙ ap (λ b. eqb b 1) (bit_at-zero bit)

none_set : (words unit place : ℕ) → unit < 64 → place < 64 * words → is_set words (replicate (64 * words) 0) unit place ≡ false
none_set words unit place u p = no_bit (64 * words) (unit * words + place / 64) (place % 64) (place_below 64 words (place / 64) unit (omega arith) u)

-- where each unit has one word, a place is a bit of it
is_set-one : (words : ℕ) (times : List ℕ) (unit place : ℕ) → words ≡ 1 → place < 64 → is_set words times unit place ≡ is_on times unit place
is_set-one words times unit place one p =
    let index : unit * words + place / 64 ≡ unit = ap (λ w. unit * w + place / 64) one ∙ omega arith in
    let bit : place % 64 ≡ place = omega arith in
    ap (λ k. eqb (bit_at (get_or times k 0) (place % 64)) 1) index ∙ ap (λ b. eqb (bit_at (get_or times unit 0) b) 1) bit

module _ (ii words : ℕ) (some : 0 < ii) (one : ii < 64 → words ≡ 1) (reach : 64 ≤ ii → ii + 64 ≤ 64 * words) where
  pub AreTimes-new : words ≤ 257 → ((other : ℕ) → 64 ≤ ii → ii + 64 ≤ 64 * other → words ≤ other) → AreTimes ii words (replicate (64 * words) 0)
  AreTimes-new few least = record {
    all = length-replicate (64 * words) 0;
    few = few;
    one = one;
    reach = reach;
    least = least;
    once = λ short.
        let all : 64 ≤ 64 * words = omega (arith, one short) in
        record {
          tell = λ unit residue u r. no_bit (64 * words) unit residue (omega arith) ∙ sym (none_set words unit residue u (omega arith));
          clear = λ unit place u past p. no_bit (64 * words) unit place (omega arith);
        };
    tell = λ long unit place u p.
        none_set words unit place u (omega (arith, reach long)) ∙ sym (none_set words unit (place % ii) u (omega (arith, reach long)));
  }

  pub none_set-new : (unit residue : ℕ) → unit < 64 → residue < ii → is_set words (replicate (64 * words) 0) unit residue ≡ false
  none_set-new unit residue u r =
      let within : residue < 64 * words = elim (cases_lt ii 64) [ inl short ↦ omega (arith, one short) | inr long ↦ omega (arith, reach long) ] in
      none_set words unit residue u within

and_with_false : (a b : Bool) → b ≡ false → (a && b) ≡ false
and_with_false true b h = h
and_with_false false b h = refl

-- the bit of a unit at a residue is written
module _ (ii words own at : ℕ) (times times' : List ℕ) (held : Bool) (some : at < ii) (a : AreTimes ii words times) (long : length times' ≡ length times) where
  module _ (short : ii < 64)
      (written : (unit place : ℕ) → unit < 64 → place < 64 → is_on times' unit place ≡ cond (eqb unit own && eqb place at) held (is_on times unit place)) where
    pub AreTimes-rounds : AreTimes ii words times'
    AreTimes-rounds = record {
      all = long ∙ a.all;
      few = a.few;
      one = a.one;
      reach = a.reach;
      least = a.least;
      once = λ _. record {
        tell = λ unit residue u r. sym (is_set-one words times' unit residue (a.one short) (omega arith));
        clear = λ unit place u past p.
            let ne : place ≢ at = λ e. omega arith in
            written unit place u p ∙ ap (λ b. cond b held (is_on times unit place)) (and_with_false (eqb unit own) (eqb place at) (ne_eqb place at ne)) ∙ (a.once short).clear unit place u past p;
      };
      tell = λ far. absurd (omega arith);
    }

    pub is_set-rounds : (unit place : ℕ) → unit < 64 → place < ii → is_set words times' unit place ≡ cond (eqb unit own && eqb place at) held (is_set words times unit place)
    is_set-rounds unit place u r =
        is_set-one words times' unit place (a.one short) (omega arith) ∙ written unit place u (omega arith)
        ∙ ap (λ b. cond (eqb unit own && eqb place at) held b) (sym (is_set-one words times unit place (a.one short) (omega arith)))

  module _ (far : 64 ≤ ii)
      (written : (unit place : ℕ) → unit < 64 → place < ii + 64 → is_set words times' unit place ≡ cond (eqb unit own && eqb (place % ii) at) held (is_set words times unit place)) where
    pub is_set-times : (unit place : ℕ) → unit < 64 → place < ii → is_set words times' unit place ≡ cond (eqb unit own && eqb place at) held (is_set words times unit place)
    is_set-times unit place u r =
        written unit place u (omega arith) ∙ ap (λ k. cond (eqb unit own && eqb k at) held (is_set words times unit place)) (mod-eq_of_lt r)

    pub AreTimes-times : AreTimes ii words times'
    AreTimes-times = record {
      all = long ∙ a.all;
      few = a.few;
      one = a.one;
      reach = a.reach;
      least = a.least;
      once = λ short. absurd (omega arith);
      tell = λ _ unit place u p.
          written unit place u p ∙ ap (λ b. cond (eqb unit own && eqb (place % ii) at) held b) (a.tell far unit place u p) ∙ sym (is_set-times unit (place % ii) u (omega arith));
    }

-- ---- a word of units for each residue
pub AreMasks-new : (ii n : ℕ) → (ii < 8 → n ≡ ii) → (8 ≤ ii → n ≡ ii + 7) → AreMasks ii (replicate n 0)
AreMasks-new ii n short spare =
    let long : length (replicate n 0) ≡ n = length-replicate {A = ℕ} n 0 in
    record {
      short = λ few. long ∙ short few;
      spare = λ eight. long ∙ spare eight;
      repeats = λ place within. get_or-replicate n (place + ii) 0 0 (omega (arith, long, within)) ∙ sym (get_or-replicate n place 0 0 (omega (arith, long, within)));
    }
