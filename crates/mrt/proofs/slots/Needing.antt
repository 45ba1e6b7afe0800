-- The units of rows, as bits.
use Rattle.std.proofs.Common.{zero, suc, ◌≡◌, ℕ, ◌+◌, ◌^◌, ◌<◌, inl, inr, Bool, true, false, ◌&&◌, ◌||◌, cond, eqb, bit_and, bit_or, List, [], ◌∷◌, length, get_or, drop, refl, sym, ap, ◌∙◌}
use Rattle.std.specs.List.{list_any}
use Rattle.std.proofs.lemmas.Bool.{cases_Bool, true≢false}
use Rattle.std.proofs.lemmas.List.{drop_more}
use Rattle.machine_data.specs.declared.alternative.Row.{Row}
use Rattle.machine_data.specs.Alternative.{residue_of, rows_meet, collides}
use Rattle.mrt.specs.declared.rosters.slot.Slot.{Slot}
use Rattle.mrt.specs.inner.Slots.{rows_in, needs_unit, HasUnits}
use Rattle.mrt.specs.Taken.{takes}
use Rattle.mrt.proofs.placements.Choosing.{collides-drop}
use Rattle.mrt.proofs.slots.Masking.{with_set, test_clear}

-- a test that fails wherever another does
list_any_weaker : {X : Type 0} (p q : X → Bool) (xs : List X) → ((x : X) → q x ≡ false → p x ≡ false) → list_any q xs ≡ false → list_any p xs ≡ false
list_any_weaker p q [] less h = refl
list_any_weaker p q (x ∷ xs) less h =
    elim (cases_Bool (q x)) [
      | inl some ↦ absurd (true≢false (sym (ap (λ b. b || list_any q xs) some) ∙ h))
      | inr none ↦
          let rest : list_any q xs ≡ false = sym (ap (λ b. b || list_any q xs) none) ∙ h in
          ap (λ b. b || list_any p xs) (less x none) ∙ list_any_weaker p q xs less rest
    ]

fails_first : (a b : Bool) → a ≡ false → (a && b) ≡ false
fails_first a b h = ap (λ t. t && b) h

-- no row of the unit takes a slot of it
pub takes_none : (ii : ℕ) (rows : List Row) (time unit residue : ℕ) → needs_unit unit rows ≡ false → takes ii rows time unit residue ≡ false
takes_none ii rows time unit residue h =
    list_any_weaker (λ (row : Row). eqb unit row.unit && eqb residue (residue_of ii row time)) (λ (row : Row). eqb unit row.unit) rows
    (λ row no. fails_first (eqb unit row.unit) (eqb residue (residue_of ii row time)) no) h

pub meets_none_of : (ii : ℕ) (row : Row) (rows : List Row) → needs_unit row.unit rows ≡ false → list_any (λ s. rows_meet ii row 0 s 0) rows ≡ false
meets_none_of ii row rows h =
    list_any_weaker (λ (s : Row). rows_meet ii row 0 s 0) (λ (s : Row). eqb row.unit s.unit) rows
    (λ s no. fails_first (eqb row.unit s.unit) (eqb (residue_of ii row 0) (residue_of ii s 0)) no) h

-- what it tells that a mask meets no bit
pub needs_not : (bits mask unit : ℕ) (rows : List Row) → mask ≡ 2 ^ unit → HasUnits bits rows → bit_and bits mask ≡ 0 → needs_unit unit rows ≡ false
needs_not bits mask unit rows m has none = sym (has unit) ∙ test_clear bits mask unit m none

or_first : (a b : Bool) → cond a true b ≡ (a || b)
or_first true b = refl
or_first false b = refl

pub HasUnits-before : (bits mask : ℕ) (slots : List Slot) (k : ℕ) (d : Slot) → k < length slots → mask ≡ 2 ^ (get_or slots k d).row.unit
    → HasUnits bits (rows_in (drop (k + 1) slots)) → HasUnits (bit_or bits mask) (rows_in (drop k slots))
HasUnits-before bits mask slots k d lt m has unit =
    let own = (get_or slots k d).row.unit in
    with_set bits mask own unit m ∙ ap (λ b. cond (eqb unit own) true b) (has unit) ∙ or_first (eqb unit own) (needs_unit unit (rows_in (drop (k + 1) slots)))
    ∙ sym (ap (λ zs. needs_unit unit (rows_in zs)) (drop_more slots k d lt))

or_true : (a b : Bool) → b ≡ true → (a || b) ≡ true
or_true true b h = refl
or_true false b h = h

-- slots from a place on that collide, and one more that meets none of them
pub collides_from : (ii : ℕ) (slots : List Slot) (k : ℕ) → collides ii (rows_in (drop k slots)) ≡ true → collides ii (rows_in slots) ≡ true
collides_from ii [] zero h = h
collides_from ii [] (suc k) h = h
collides_from ii (s ∷ slots) zero h = h
collides_from ii (s ∷ slots) (suc k) h = or_true (list_any (λ r. rows_meet ii s.row 0 r 0) (rows_in slots)) (collides ii (rows_in slots)) (collides_from ii slots k h)

module _ (ii : ℕ) (slots rest : List Slot) (k : ℕ) (d : Slot) (lt : k < length slots) (e : rest ≡ drop (k + 1) slots) where
  abbrev pub later : List Slot → Bool
  later others = list_any (λ s. rows_meet ii (get_or slots k d).row 0 s 0) (rows_in others)

  pub collides_not : later rest ≡ false → collides ii (rows_in (drop (k + 1) slots)) ≡ false → collides ii (rows_in (drop k slots)) ≡ false
  collides_not none after = collides-drop ii slots k d lt ∙ ap (λ b. b || collides ii (rows_in (drop (k + 1) slots))) (ap later (sym e) ∙ none) ∙ after

  pub collides_at : later rest ≡ true → collides ii (rows_in slots) ≡ true
  collides_at some = collides_from ii slots k (collides-drop ii slots k d lt ∙ ap (λ b. b || collides ii (rows_in (drop (k + 1) slots))) (ap later (sym e) ∙ some))
