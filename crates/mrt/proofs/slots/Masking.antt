-- One bit of a word, and tables of bits.
use Rattle.std.proofs.Common.{◌≡◌, ◌≢◌, ℕ, ◌-◌, ◌*◌, ◌^◌, ◌<◌, inl, inr, Bool, true, false, not, cond, eqb, bit_and, bit_or, length, set, replicate, Option, Some, None, MatchOption, refl, sym, ap, ◌∙◌, subst, arith, eq-eqb, length-set, w64}
use Rattle.std.specs.Int.{bit_at, bit_not}
use Rattle.std.proofs.lemmas.Bool.{cases_eq, ne_eqb, true≢false}
use Rattle.std.proofs.lemmas.Nat.Bits.{bit_at-lt, bit_at_or, bit_at_and, bit_at_not, bit_at-pow_same, bit_at-pow_other, and_pow}
use Rattle.std.proofs.lemmas.List.{length-replicate}
use Rattle.std.proofs.Math.Pow.{pow_pos}
use Rattle.machine_data.specs.declared.alternative.Row.{Row}
use Rattle.machine_data.specs.Alternative.{residue_of}
use Rattle.mrt.specs.Placements.{OperationAlternatives, Placements, Placement, placement_of, rows_of, IsFree, Holds, IsHolder}
use Rattle.mrt.specs.inner.Rosters.{Table}
use Rattle.mrt.specs.inner.Slots.{Occupies}
use Rattle.mrt.specs.Taken.{takes, Takes, AreApart}
use Rattle.mrt.specs.inner.BitTables.{IsBitTable}
use Rattle.mrt.proofs.searching.Taking.{none_placed, takes_from_Holds, Holds-from_takes}
use Rattle.mrt.proofs.slots.Marking.{Occupies-placed, Occupies-removed, AreApart-placed, AreApart-removed}

-- ---- one bit of a word
pub with_set : (word mask own unit : ℕ) → mask ≡ 2 ^ own → eqb (bit_at (bit_or word mask) unit) 1 ≡ cond (eqb unit own) true (eqb (bit_at word unit) 1)
with_set word mask own unit m =
    let or = ap (λ k. bit_at (bit_or word k) unit) m ∙ bit_at_or word (2 ^ own) unit in
    elim (cases_eq unit own) [
      | inl same ↦
          let one : bit_at (2 ^ own) unit ≡ 1 = ap (λ k. bit_at (2 ^ own) k) same ∙ bit_at-pow_same own in
          let is : bit_at (bit_or word mask) unit ≡ 1 = omega (arith, or, one, bit_at-lt word unit) in
          eq-eqb (bit_at (bit_or word mask) unit) 1 is ∙ sym (ap (λ b. cond b true (eqb (bit_at word unit) 1)) (eq-eqb unit own same))
      | inr other ↦
          let is : bit_at (bit_or word mask) unit ≡ bit_at word unit = omega (arith, or, bit_at-pow_other own unit other) in
          ap (λ n. eqb n 1) is ∙ sym (ap (λ b. cond b true (eqb (bit_at word unit) 1)) (ne_eqb unit own other))
    ]

pub with_cleared : (word mask own unit : ℕ) → mask ≡ 2 ^ own → own < 64 → unit < 64 → mask < 2 ^ 64
    → eqb (bit_at (bit_and word (2 ^ 64 - 1 - mask)) unit) 1 ≡ cond (eqb unit own) false (eqb (bit_at word unit) 1)
with_cleared word mask own unit m o u fits =
    let and = bit_at_and word (bit_not w64 mask) unit in
    let not_is = bit_at_not w64 mask unit fits u in
    elim (cases_eq unit own) [
      | inl same ↦
          let one : bit_at mask unit ≡ 1 = ap (λ k. bit_at k unit) m ∙ ap (λ k. bit_at (2 ^ own) k) same ∙ bit_at-pow_same own in
          let is : bit_at (bit_and word (bit_not w64 mask)) unit ≡ 0 = omega (arith, and, not_is, one) in
          ap (λ n. eqb n 1) is ∙ sym (ap (λ b. cond b false (eqb (bit_at word unit) 1)) (eq-eqb unit own same))
      | inr other ↦
          let zero_bit : bit_at mask unit ≡ 0 = ap (λ k. bit_at k unit) m ∙ bit_at-pow_other own unit other in
          let is : bit_at (bit_and word (bit_not w64 mask)) unit ≡ bit_at word unit = omega (arith, and, not_is, zero_bit, bit_at-lt word unit) in
          ap (λ n. eqb n 1) is ∙ sym (ap (λ b. cond b false (eqb (bit_at word unit) 1)) (ne_eqb unit own other))
    ]

pub test_clear : (word mask own : ℕ) → mask ≡ 2 ^ own → bit_and word mask ≡ 0 → eqb (bit_at word own) 1 ≡ false
test_clear word mask own m h =
    let product : bit_at word own * 2 ^ own ≡ 0 = sym (and_pow word own) ∙ ap (λ k. bit_and word k) (sym m) ∙ h in
    ne_eqb (bit_at word own) 1 (λ e. omega (arith, ap (λ n. n * 2 ^ own) e, product, pow_pos own))

test_set : (word mask own : ℕ) → mask ≡ 2 ^ own → bit_and word mask ≢ 0 → eqb (bit_at word own) 1 ≡ true
test_set word mask own m ne =
    elim (cases_eq (bit_at word own) 1) [
      | inl one ↦ eq-eqb (bit_at word own) 1 one
      | inr other ↦
          let none : bit_at word own ≡ 0 = omega (arith, bit_at-lt word own) in
          absurd (ne (ap (λ k. bit_and word k) m ∙ and_pow word own ∙ ap (λ n. n * 2 ^ own) none ∙ omega arith))
    ]

pub test_is : (word mask own : ℕ) → mask ≡ 2 ^ own → not (eqb (bit_and word mask) 0) ≡ eqb (bit_at word own) 1
test_is word mask own m =
    elim (cases_eq (bit_and word mask) 0) [
      | inl none ↦ ap not (eq-eqb (bit_and word mask) 0 none) ∙ sym (test_clear word mask own m none)
      | inr some ↦ ap not (ne_eqb (bit_and word mask) 0 some) ∙ sym (test_set word mask own m some)
    ]

-- ---- the table as it changes
pub IsBitTable-new : (ii n : ℕ) (operations : OperationAlternatives) (held : ℕ → ℕ → Bool) → n ≡ length operations
    → ((unit residue : ℕ) → unit < 64 → residue < ii → held unit residue ≡ false) → IsBitTable (record { interval = ii; operations = operations; placed = replicate n None }) held
IsBitTable-new ii n operations held whole clear = record {
  whole = length-replicate n None ∙ whole;
  apart = λ unit residue x y s t. absurd (none_placed n x s.at s.is_placed);
  occupied = record {
    marked = λ unit residue op u r t. absurd (none_placed n op t.at t.is_placed);
    owed = λ unit residue u r h. absurd (true≢false (sym h ∙ clear unit residue u r));
  };
}

-- the same of operations that a table has, of which none is placed
pub IsBitTable-of : (table : Table) (held : ℕ → ℕ → Bool) → table.placed ≡ replicate (length table.operations) None
    → ((unit residue : ℕ) → unit < 64 → residue < table.interval → held unit residue ≡ false) → IsBitTable table held
IsBitTable-of table held empty clear =
    let with = λ (ps : Placements). let t : Table = record { interval = table.interval; operations = table.operations; placed = ps } in IsBitTable t held in
    subst with (sym empty) (IsBitTable-new table.interval (length table.operations) table.operations held refl clear)

module _ (table : Table) (held held' : ℕ → ℕ → Bool) (op : ℕ) (at : Placement) (kept : IsBitTable table held) where
  pub IsBitTable-placed : op < length table.operations → placement_of table.placed op ≡ None → IsFree table.interval table.operations table.placed op at.time at.alternative
      → ((unit residue : ℕ) → unit < 64 → residue < table.interval
      → held' unit residue ≡ cond (takes table.interval (rows_of table.operations op at.alternative) at.time unit residue) true (held unit residue))
      → IsBitTable (record table { placed = set table.placed op (Some at) }) held'
  IsBitTable-placed there unplaced free write =
      let within : op < length table.placed = omega (arith, there, kept.whole) in
      record {
        whole = length-set table.placed op (Some at) ∙ kept.whole;
        apart = AreApart-placed table.interval 64 table.operations table.placed op at within unplaced free.fits.meets_none kept.apart;
        occupied = Occupies-placed table.interval 64 table.operations table.placed op at within unplaced free.fits.meets_none held held' write kept.occupied;
      }

  pub IsBitTable-removed : placement_of table.placed op ≡ Some at
      → ((unit residue : ℕ) → unit < 64 → residue < table.interval
      → held' unit residue ≡ cond (takes table.interval (rows_of table.operations op at.alternative) at.time unit residue) false (held unit residue))
      → IsBitTable (record table { placed = set table.placed op None }) held'
  IsBitTable-removed is_placed write = record {
    whole = length-set table.placed op None ∙ kept.whole;
    apart = AreApart-removed table.interval 64 table.operations table.placed op at is_placed kept.apart;
    occupied = Occupies-removed table.interval 64 table.operations table.placed op at is_placed kept.apart held held' write kept.occupied;
  }

-- ---- who holds a slot
module _ (ii : ℕ) (operations : OperationAlternatives) (placed : Placements) (row : Row) (time : ℕ) where
  pub nobody_holds : ((op : ℕ) → Takes ii operations placed row.unit (residue_of ii row time) op → ⊥) → (holder : ℕ) → Holds ii operations placed row time holder → ⊥
  nobody_holds none holder h = none holder (takes_from_Holds ii operations placed row time holder h)

  pub unmarked : (held : ℕ → ℕ → Bool) → 0 < ii → row.unit < 64 → Occupies ii 64 operations placed held → held row.unit (residue_of ii row time) ≡ false
      → (op : ℕ) → Takes ii operations placed row.unit (residue_of ii row time) op → ⊥
  unmarked held some u o clear op t = true≢false (sym (o.marked row.unit (residue_of ii row time) op u (omega arith) t) ∙ clear)

  pub taker_holds : AreApart ii operations placed → (holder : ℕ) → Takes ii operations placed row.unit (residue_of ii row time) holder
      → Holds ii operations placed row time holder × ((other : ℕ) → Holds ii operations placed row time other → other ≡ holder)
  taker_holds apart holder t = (
    Holds-from_takes ii operations placed row time holder t,
    λ other h. apart row.unit (residue_of ii row time) other holder (takes_from_Holds ii operations placed row time other h) t,
  )

  pub holder_of_taker : AreApart ii operations placed → (found : Option ℕ)
      → MatchOption found ((op : ℕ) → Takes ii operations placed row.unit (residue_of ii row time) op → ⊥) (Takes ii operations placed row.unit (residue_of ii row time))
      → IsHolder ii operations placed row time found
  holder_of_taker apart None none = nobody_holds none
  holder_of_taker apart (Some holder) t = taker_holds apart holder t
