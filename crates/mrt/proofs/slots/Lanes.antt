-- Operations on eight words, lane by lane.
use Rattle.std.proofs.Common.{◌≡◌, ◌≢◌, ℕ, ◌+◌, ◌-◌, ◌%◌, ◌^◌, ◌<◌, ◌≤◌, inl, inr, Bool, true, false, not, ◌&&◌, ◌||◌, cond, eqb, bit_and, bit_or, List, length, get_or, map, replicate, take, refl, sym, ap, ◌∙◌, arith, eq-eqb}
use Rattle.std.specs.Int.{bit_at}
use Rattle.std.specs.Simd.Lanes.{zip2, mask_l}
use Rattle.std.proofs.lemmas.Simd.{length-zip2, get_or-zip2, get_or-replicate, length-replicate, bit_mask_l}
use Rattle.std.proofs.lemmas.Bool.{cases_eq, cases_lt, ne_eqb}
use Rattle.std.proofs.lemmas.Nat.{le_or_l, le_or_r}
use Rattle.std.proofs.lemmas.List.{get_or-map, get_or_past, length-map}
use Rattle.machine_data.specs.declared.alternative.Row.{Row}
use Rattle.machine_data.specs.Alternative.{residue_of}
use Rattle.mrt.specs.declared.rosters.slot.Slot.{Slot}
use Rattle.mrt.specs.inner.Slots.{rows_in, meets_held}
use Rattle.mrt.specs.inner.Masks.{is_held, Repeats}
use Rattle.mrt.specs.inner.Lanes.{HasLanes}
use Rattle.mrt.proofs.placements.Residues.{residue_later, residue_around}
use Rattle.mrt.proofs.slots.Owning.{meets_more}
use Rattle.mrt.proofs.slots.Masking.{test_is}

pub HasLanes-zip2 : (f : ℕ → ℕ → ℕ) (a b : List ℕ) → length a ≡ 8 → length b ≡ 8 → HasLanes (zip2 f a b) (λ k. f (get_or a k 0) (get_or b k 0))
HasLanes-zip2 f a b p q = record {
  long = length-zip2 f a b (p ∙ sym q) ∙ p;
  each = λ k l. get_or-zip2 f a b k 0 0 0 (omega arith) (omega arith);
}

-- two vectors, one of them under a mask
pub HasLanes-masked : (met words : List ℕ) (mask : ℕ) → length met ≡ 8 → length words ≡ 8
    → HasLanes (zip2 bit_or met (zip2 bit_and words (replicate 8 mask))) (λ k. bit_or (get_or met k 0) (bit_and (get_or words k 0) mask))
HasLanes-masked met words mask p q =
    let inner = HasLanes-zip2 bit_and words (replicate 8 mask) q (length-replicate 8 mask) in
    let outer = HasLanes-zip2 bit_or met (zip2 bit_and words (replicate 8 mask)) p inner.long in
    record {
      long = outer.long;
      each = λ k l. outer.each k l ∙ ap (bit_or (get_or met k 0)) (inner.each k l ∙ ap (bit_and (get_or words k 0)) (get_or-replicate 8 k mask 0 l));
    }

one_if : (b : Bool) → eqb (cond b 1 0) 1 ≡ b
one_if true = refl
one_if false = refl

pub bit_of_zero_lanes : (met : List ℕ) (k : ℕ) → length met ≡ 8 → k < 8 → eqb (bit_at (mask_l (map (λ x. eqb x 0) met)) k) 1 ≡ eqb (get_or met k 0) 0
bit_of_zero_lanes met k p l =
    ap (λ n. eqb n 1) (bit_mask_l (map (λ x. eqb x 0) met) k ∙ ap (λ b. cond b 1 0) (get_or-map (λ x. eqb x 0) met k 0 false (omega arith)))
    ∙ one_if (eqb (get_or met k 0) 0)

pub no_bit_past : (met : List ℕ) (k : ℕ) → length met ≡ 8 → 8 ≤ k → bit_at (mask_l (map (λ x. eqb x 0) met)) k ≡ 0
no_bit_past met k p past =
    let far : length (map (λ x. eqb x 0) met) ≤ k = omega (arith, length-map met (λ x. eqb x 0), p, past) in
    bit_mask_l (map (λ x. eqb x 0) met) k ∙ ap (λ b. cond b 1 0) (get_or_past (map (λ x. eqb x 0) met) k false far)

-- no bit stands in either
pub or_is_zero : (a b : ℕ) → eqb (bit_or a b) 0 ≡ (eqb a 0 && eqb b 0)
or_is_zero a b =
    elim (cases_eq a 0) [
      | inl left ↦
          elim (cases_eq b 0) [
            | inl right ↦ ap (λ n. eqb (bit_or n b) 0) left ∙ ap (λ n. eqb (bit_or 0 n) 0) right ∙ sym (ap (λ t. t && eqb b 0) (eq-eqb a 0 left) ∙ eq-eqb b 0 right)
            | inr ne ↦
                let more : bit_or a b ≢ 0 = λ e. ne (omega (arith, le_or_r a b)) in
                ne_eqb (bit_or a b) 0 more ∙ sym (ap (λ t. t && eqb b 0) (eq-eqb a 0 left) ∙ ne_eqb b 0 ne)
          ]
      | inr ne ↦
          let more : bit_or a b ≢ 0 = λ e. ne (omega (arith, le_or_l a b)) in
          ne_eqb (bit_or a b) 0 more ∙ sym (ap (λ t. t && eqb b 0) (ne_eqb a 0 ne))
    ]

flip : (a b : Bool) → not a ≡ b → a ≡ not b
flip true b h = ap not h
flip false b h = ap not h

mask_tests : (word mask own : ℕ) → mask ≡ 2 ^ own → eqb (bit_and word mask) 0 ≡ not (eqb (bit_at word own) 1)
mask_tests word mask own m = flip (eqb (bit_and word mask) 0) (eqb (bit_at word own) 1) (test_is word mask own m)

neither : (a b : Bool) → (not a && not b) ≡ not (a || b)
neither true b = refl
neither false b = refl

-- the words of eight consecutive cycles stand side by side
pub word_later : (ii : ℕ) (busy : List ℕ) (row : Row) (time at k : ℕ) → 8 ≤ ii → length busy ≡ ii + 7 → Repeats ii busy → at ≡ residue_of ii row time → at < ii → k < 8
    → get_or busy (at + k) 0 ≡ get_or busy (residue_of ii row (time + k)) 0
word_later ii busy row time at k eight long rep is below lt =
    let same : (time + row.offset) + k ≡ (time + k) + row.offset = omega arith in
    elim (cases_lt (at + k) ii) [
      | inl inside ↦ ap (λ n. get_or busy n 0) (sym (sym (ap (λ n. n % ii) same) ∙ residue_later ii at (time + row.offset) k (sym is) inside))
      | inr past ↦
          let whole : at + k ≡ (at + k - ii) + ii = omega arith in
          let within : (at + k - ii) + ii < length busy = omega arith in
          ap (λ n. get_or busy n 0) whole ∙ rep (at + k - ii) within
          ∙ ap (λ n. get_or busy n 0) (sym (sym (ap (λ n. n % ii) same) ∙ residue_around ii at (time + row.offset) k (omega arith) (sym is) (omega arith) past))
    ]

-- one slot more
pub lane_more : (ii : ℕ) (busy : List ℕ) (slots : List Slot) (time k i : ℕ) (d : Slot) (at was now word mask : ℕ) → i < length slots → 8 ≤ ii → length busy ≡ ii + 7 → Repeats ii busy
    → at ≡ residue_of ii (get_or slots i d).row time → at < ii → k < 8 → mask ≡ 2 ^ (get_or slots i d).row.unit
    → word ≡ get_or busy (at + k) 0
    → eqb was 0 ≡ not (meets_held ii (is_held busy) (rows_in (take i slots)) (time + k))
    → now ≡ bit_or was (bit_and word mask)
    → eqb now 0 ≡ not (meets_held ii (is_held busy) (rows_in (take (i + 1) slots)) (time + k))
lane_more ii busy slots time k i d at was now word mask lt eight long rep is below small m w so_far step =
    let row = (get_or slots i d).row in
    let before = meets_held ii (is_held busy) (rows_in (take i slots)) (time + k) in
    let here = is_held busy row.unit (residue_of ii row (time + k)) in
    let read : word ≡ get_or busy (residue_of ii row (time + k)) 0 = w ∙ word_later ii busy row time at k eight long rep is below small in
    ap (λ n. eqb n 0) step ∙ or_is_zero was (bit_and word mask)
    ∙ ap (λ b. b && eqb (bit_and word mask) 0) so_far
    ∙ ap (λ b. not before && b) (mask_tests word mask row.unit m ∙ ap (λ n. not (eqb (bit_at n row.unit) 1)) read)
    ∙ neither before here
    ∙ ap not (sym (meets_more ii (is_held busy) slots (time + k) i d lt))
