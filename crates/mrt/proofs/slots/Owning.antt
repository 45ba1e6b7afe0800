-- Owners in rows of units.
use Rattle.std.proofs.Common.{◌≡◌, ◌≢◌, ℕ, ◌+◌, ◌*◌, ◌/◌, ◌%◌, ◌<◌, ◌≤◌, inl, inr, Bool, true, false, ◌&&◌, ◌||◌, cond, not, eqb, List, length, get_or, set, take, replicate, Option, Some, None, refl, sym, ap, ◌∙◌, subst, arith, eq-eqb, length-set}
use Rattle.std.specs.List.{All}
use Rattle.std.proofs.lemmas.Bool.{cases_eq, ne_eqb, eqb-false, not-true, and_from}
use Rattle.std.proofs.Math.Nat.{mul_comm}
use Rattle.std.proofs.lemmas.Nat.{mul-add-lt, div-mul-add, mod-mul-add}
use Rattle.std.proofs.lemmas.List.{get_or-set_same, get_or-set_other, get_or-replicate, get_or_read, length-replicate}
use Rattle.std.proofs.lemmas.List.Folds.{list_any_at, list_any_more}
use Rattle.machine_data.specs.declared.alternative.Row.{Row}
use Rattle.machine_data.specs.Alternative.{residue_of}
use Rattle.mrt.specs.declared.rosters.slot.Slot.{Slot}
use Rattle.mrt.specs.declared.owner.TheConstants.{FREE}
use Rattle.mrt.specs.Placements.{OperationAlternatives, Placements, Placement, placement_of, rows_of, IsFree, Holds}
use Rattle.mrt.specs.inner.Rosters.{Table}
use Rattle.mrt.specs.inner.Slots.{rows_in, meets_held, Owns, Occupies}
use Rattle.mrt.specs.Taken.{takes}
use Rattle.mrt.specs.inner.OwnerTables.{owner_at, is_owned, IsOwnerTable}
use Rattle.mrt.proofs.placements.Lists.{list_any-map}
use Rattle.mrt.proofs.searching.Taking.{placed_within, none_placed, takes_from_Holds, Holds-from_takes}
use Rattle.mrt.proofs.slots.Marking.{Owns-placed, Owns-removed}

-- ---- the slots so far
pub takes_more : (ii : ℕ) (slots : List Slot) (time unit residue k : ℕ) (d : Slot) → k < length slots
    → takes ii (rows_in (take (k + 1) slots)) time unit residue
    ≡ (takes ii (rows_in (take k slots)) time unit residue || (eqb unit (get_or slots k d).row.unit && eqb residue (residue_of ii (get_or slots k d).row time)))
takes_more ii slots time unit residue k d lt =
    let p = λ (row : Row). eqb unit row.unit && eqb residue (residue_of ii row time) in
    let h = λ (s : Slot). s.row in
    list_any-map p h (take (k + 1) slots) ∙ list_any_more (λ (s : Slot). p s.row) slots k d lt
    ∙ ap (λ b. b || p (get_or slots k d).row) (sym (list_any-map p h (take k slots)))

module _ (ii : ℕ) (held : ℕ → ℕ → Bool) (slots : List Slot) (time : ℕ) where
  pub meets_here : (k : ℕ) (d : Slot) → k < length slots → held (get_or slots k d).row.unit (residue_of ii (get_or slots k d).row time) ≡ true
      → meets_held ii held (rows_in slots) time ≡ true
  meets_here k d lt h =
      list_any-map (λ (row : Row). held row.unit (residue_of ii row time)) (λ (s : Slot). s.row) slots
      ∙ list_any_at (λ (s : Slot). held s.row.unit (residue_of ii s.row time)) slots k d lt h

  pub meets_more : (k : ℕ) (d : Slot) → k < length slots
      → meets_held ii held (rows_in (take (k + 1) slots)) time ≡ (meets_held ii held (rows_in (take k slots)) time || held (get_or slots k d).row.unit (residue_of ii (get_or slots k d).row time))
  meets_more k d lt =
      let p = λ (row : Row). held row.unit (residue_of ii row time) in
      let row = λ (s : Slot). s.row in
      list_any-map p row (take (k + 1) slots) ∙ list_any_more (λ (s : Slot). p s.row) slots k d lt
      ∙ ap (λ b. b || p (get_or slots k d).row) (sym (list_any-map p row (take k slots)))

-- ---- places in rows
pub place_below : (ii units unit residue : ℕ) → unit < units → residue < ii → residue * units + unit < ii * units
place_below ii units unit residue u r = omega (arith, mul-add-lt residue units unit ii r u, mul_comm units ii)

pub same_place : (units unit residue unit' residue' : ℕ) → unit < units → unit' < units → residue * units + unit ≡ residue' * units + unit' → (unit ≡ unit') × (residue ≡ residue')
same_place units unit residue unit' residue' u u' e = (
  sym (mod-mul-add residue units unit u) ∙ ap (λ n. n % units) e ∙ mod-mul-add residue' units unit' u',
  sym (div-mul-add residue units unit u) ∙ ap (λ n. n / units) e ∙ div-mul-add residue' units unit' u',
)

pub owner_at-set : (units : ℕ) (owners : List ℕ) (place unit' residue' v unit residue : ℕ) → place ≡ residue' * units + unit' → place < length owners → unit < units → unit' < units
    → owner_at units (set owners place v) unit residue ≡ cond (eqb unit unit' && eqb residue residue') v (owner_at units owners unit residue)
owner_at-set units owners place unit' residue' v unit residue at lt u u' =
    elim (cases_eq (residue * units + unit) place) [
      | inl same ↦
          let is = same_place units unit residue unit' residue' u u' (same ∙ at) in
          ap (λ k. get_or (set owners place v) k 0) same ∙ get_or-set_same owners place v 0 lt
          ∙ sym (ap (λ b. cond (b && eqb residue residue') v (owner_at units owners unit residue)) (eq-eqb unit unit' is.0) ∙ ap (λ b. cond b v (owner_at units owners unit residue)) (eq-eqb residue residue' is.1))
      | inr other ↦
          let off : (eqb unit unit' && eqb residue residue') ≡ false =
          elim (cases_eq unit unit') [
            | inl same ↦ ap (λ b. b && eqb residue residue') (eq-eqb unit unit' same) ∙ ne_eqb residue residue' (λ e. other (ap (λ r. r * units + unit) e ∙ ap (λ n. residue' * units + n) same ∙ sym at))
            | inr ne ↦ ap (λ b. b && eqb residue residue') (ne_eqb unit unit' ne)
          ] in
          get_or-set_other owners place (residue * units + unit) v 0 other ∙ sym (ap (λ b. cond b v (owner_at units owners unit residue)) off)
    ]

cond_again : {V : Type 0} (a b : Bool) (v w : V) → cond b v (cond a v w) ≡ cond (a || b) v w
cond_again true true v w = refl
cond_again true false v w = refl
cond_again false true v w = refl
cond_again false false v w = refl

-- one slot more is written
pub write_more : {V : Type 0} (ii : ℕ) (slots : List Slot) (time unit residue k : ℕ) (d : Slot) (v before was now : V) → k < length slots
    → was ≡ cond (takes ii (rows_in (take k slots)) time unit residue) v before
    → now ≡ cond (eqb unit (get_or slots k d).row.unit && eqb residue (residue_of ii (get_or slots k d).row time)) v was
    → now ≡ cond (takes ii (rows_in (take (k + 1) slots)) time unit residue) v before
write_more ii slots time unit residue k d v before was now lt so_far written =
    let row = (get_or slots k d).row in
    let own = eqb unit row.unit && eqb residue (residue_of ii row time) in
    written ∙ ap (λ n. cond own v n) so_far ∙ cond_again (takes ii (rows_in (take k slots)) time unit residue) own v before
    ∙ ap (λ b. cond b v before) (sym (takes_more ii slots time unit residue k d lt))

-- one slot more is given to the owner
pub owner_at_more : (ii units : ℕ) (before owners : List ℕ) (slots : List Slot) (time k : ℕ) (d : Slot) (place v unit residue : ℕ) → k < length slots → place < length owners
    → unit < units → (get_or slots k d).row.unit < units → place ≡ residue_of ii (get_or slots k d).row time * units + (get_or slots k d).row.unit
    → owner_at units owners unit residue ≡ cond (takes ii (rows_in (take k slots)) time unit residue) v (owner_at units before unit residue)
    → owner_at units (set owners place v) unit residue ≡ cond (takes ii (rows_in (take (k + 1) slots)) time unit residue) v (owner_at units before unit residue)
owner_at_more ii units before owners slots time k d place v unit residue lt within u u' at so_far =
    let row = (get_or slots k d).row in
    write_more ii slots time unit residue k d v (owner_at units before unit residue) (owner_at units owners unit residue) (owner_at units (set owners place v) unit residue) lt so_far
    (owner_at-set units owners place row.unit (residue_of ii row time) v unit residue at within u u')

-- ---- what an owner tells
pub owned_here : (units : ℕ) (owners : List ℕ) (place unit residue : ℕ) → place ≡ residue * units + unit → get_or owners place 0 ≢ FREE → is_owned units owners unit residue ≡ true
owned_here units owners place unit residue at ne = ap not (ne_eqb (owner_at units owners unit residue) FREE (λ e. ne (ap (λ k. get_or owners k 0) at ∙ e)))

pub meets_owner : (ii units : ℕ) (owners : List ℕ) (slots : List Slot) (time k : ℕ) (d : Slot) (place : ℕ) → k < length slots
    → place ≡ residue_of ii (get_or slots k d).row time * units + (get_or slots k d).row.unit → get_or owners place 0 ≢ FREE
    → meets_held ii (is_owned units owners) (rows_in slots) time ≡ true
meets_owner ii units owners slots time k d place lt at ne =
    meets_here ii (is_owned units owners) slots time k d lt (owned_here units owners place (get_or slots k d).row.unit (residue_of ii (get_or slots k d).row time) at ne)

pub Occupies-from_owners : (ii units : ℕ) (operations : OperationAlternatives) (placed : Placements) (owners : List ℕ) → length placed ≤ FREE
    → Owns ii units FREE operations placed (owner_at units owners) → Occupies ii units operations placed (is_owned units owners)
Occupies-from_owners ii units operations placed owners short o = record {
  marked = λ unit residue op u r t.
      let is = o.kept unit residue op u r t in
      let within = placed_within placed op t.at t.is_placed in
      ap not (ne_eqb (owner_at units owners unit residue) FREE (λ e. omega (arith, within, is, e)));
  owed = λ unit residue u r h. (owner_at units owners unit residue, o.owed unit residue u r (eqb-false (owner_at units owners unit residue) FREE (not-true (eqb (owner_at units owners unit residue) FREE) h)));
}

-- ---- the table as it changes
pub IsOwnerTable-new : (ii units n : ℕ) (operations : OperationAlternatives) → n ≡ length operations → n ≤ FREE → units ≤ 64
    → ((op alternative : ℕ) → All (λ r. r.unit < units) (rows_of operations op alternative))
    → IsOwnerTable (record { interval = ii; operations = operations; placed = replicate n None }) units (replicate (ii * units) FREE)
IsOwnerTable-new ii units n operations whole short few covered = record {
  whole = length-replicate n None ∙ whole;
  short = omega (arith, length-replicate {A = Option Placement} n None);
  few = few;
  long = length-replicate (ii * units) FREE;
  covered = covered;
  owns = record {
    kept = λ unit residue op u r t. absurd (none_placed n op t.at t.is_placed);
    owed = λ unit residue u r ne. absurd (ne (get_or-replicate (ii * units) (residue * units + unit) FREE 0 (place_below ii units unit residue u r)));
  };
}

-- the same of operations that a table has, of which none is placed
pub IsOwnerTable-of : (table : Table) (units : ℕ) → table.placed ≡ replicate (length table.operations) None → length table.operations ≤ FREE → units ≤ 64
    → ((op alternative : ℕ) → All (λ r. r.unit < units) (rows_of table.operations op alternative)) → IsOwnerTable table units (replicate (table.interval * units) FREE)
IsOwnerTable-of table units empty short few covered =
    let with = λ (ps : Placements). let t : Table = record { interval = table.interval; operations = table.operations; placed = ps } in IsOwnerTable t units (replicate (table.interval * units) FREE) in
    subst with (sym empty) (IsOwnerTable-new table.interval units (length table.operations) table.operations refl short few covered)

module _ (table : Table) (units : ℕ) (owners owners' : List ℕ) (op : ℕ) (at : Placement) (kept : IsOwnerTable table units owners) (long : length owners' ≡ length owners) where
  pub IsOwnerTable-placed : op < length table.operations → placement_of table.placed op ≡ None → IsFree table.interval table.operations table.placed op at.time at.alternative
      → ((unit residue : ℕ) → unit < units → residue < table.interval
      → owner_at units owners' unit residue ≡ cond (takes table.interval (rows_of table.operations op at.alternative) at.time unit residue) op (owner_at units owners unit residue))
      → IsOwnerTable (record table { placed = set table.placed op (Some at) }) units owners'
  IsOwnerTable-placed there unplaced free write = record {
    whole = length-set table.placed op (Some at) ∙ kept.whole;
    short = omega (arith, kept.short, length-set table.placed op (Some at));
    few = kept.few;
    long = long ∙ kept.long;
    covered = kept.covered;
    owns = Owns-placed table.interval units table.operations table.placed op at (omega (arith, there, kept.whole)) unplaced free.fits.meets_none FREE (owner_at units owners) (owner_at units owners') write kept.owns;
  }

  pub IsOwnerTable-removed : placement_of table.placed op ≡ Some at
      → ((unit residue : ℕ) → unit < units → residue < table.interval
      → owner_at units owners' unit residue ≡ cond (takes table.interval (rows_of table.operations op at.alternative) at.time unit residue) FREE (owner_at units owners unit residue))
      → IsOwnerTable (record table { placed = set table.placed op None }) units owners'
  IsOwnerTable-removed is_placed write = record {
    whole = length-set table.placed op None ∙ kept.whole;
    short = omega (arith, kept.short, length-set table.placed op None);
    few = kept.few;
    long = long ∙ kept.long;
    covered = kept.covered;
    owns = Owns-removed table.interval units table.operations table.placed op at is_placed FREE (owner_at units owners) (owner_at units owners') write kept.owns;
  }

-- ---- who holds a slot
module _ (ii units : ℕ) (operations : OperationAlternatives) (placed : Placements) (owners : List ℕ) (row : Row) (time : ℕ) (some : 0 < ii) (covered : row.unit < units)
    (o : Owns ii units FREE operations placed (owner_at units owners)) where
  pub no_holder : length placed ≤ FREE → owner_at units owners row.unit (residue_of ii row time) ≡ FREE → (holder : ℕ) → Holds ii operations placed row time holder → ⊥
  no_holder short free holder h =
      let t = takes_from_Holds ii operations placed row time holder h in
      let is = o.kept row.unit (residue_of ii row time) holder covered (omega arith) t in
      omega (arith, placed_within placed holder t.at t.is_placed, is, free)

  pub one_holder : owner_at units owners row.unit (residue_of ii row time) ≢ FREE
      → Holds ii operations placed row time (owner_at units owners row.unit (residue_of ii row time))
      × ((other : ℕ) → Holds ii operations placed row time other → other ≡ owner_at units owners row.unit (residue_of ii row time))
  one_holder ne =
      let residue = residue_of ii row time in
      let below : residue < ii = omega arith in (
        Holds-from_takes ii operations placed row time (owner_at units owners row.unit residue) (o.owed row.unit residue covered below ne),
        λ other h. sym (o.kept row.unit residue other covered below (takes_from_Holds ii operations placed row time other h)),
      )

pub owner_read : (units : ℕ) (owners : List ℕ) (place v unit residue : ℕ) → place < length owners → v ≡ get_or owners place v → place ≡ residue * units + unit → v ≡ owner_at units owners unit residue
owner_read units owners place v unit residue lt is at = get_or_read owners place v lt is 0 ∙ ap (λ k. get_or owners k 0) at

pub takes_here : (ii : ℕ) (slots : List Slot) (time unit residue k : ℕ) (d : Slot) → k < length slots → (get_or slots k d).row.unit ≡ unit → residue ≡ residue_of ii (get_or slots k d).row time
    → takes ii (rows_in slots) time unit residue ≡ true
takes_here ii slots time unit residue k d lt u r =
    let p = λ (row : Row). eqb unit row.unit && eqb residue (residue_of ii row time) in
    let row = (get_or slots k d).row in
    list_any-map p (λ (s : Slot). s.row) slots
    ∙ list_any_at (λ (s : Slot). p s.row) slots k d lt (and_from (eqb unit row.unit) (eqb residue (residue_of ii row time)) (eq-eqb unit row.unit (sym u)) (eq-eqb residue (residue_of ii row time) r))
