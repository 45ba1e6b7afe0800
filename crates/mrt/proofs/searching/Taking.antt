-- Which slots the placed operations take, and what that says of the answers of a table.
use Rattle.std.proofs.Common.{◌≡◌, ◌≢◌, ℕ, zero, suc, ◌<◌, ◌⊎◌, inl, inr, Bool, true, false, not, ◌&&◌, ◌↔◌, eqb, List, length, get_or, set, replicate, Option, Some, None, refl, sym, ap, ◌∙◌, subst, arith, eq-eqb, length-set}
use Rattle.std.specs.List.{All, list_any, slice_get}
use Rattle.std.specs.Option.{option_flatten}
use Rattle.std.proofs.lemmas.Bool.{cases_eq, cases_Bool, and_parts, and_from, eqb-true, both_ways, not-true}
use Rattle.std.proofs.lemmas.Option.{none-some, same_Some, slice_get-get_or, slice_get_within, get_or_from_slice_get}
use Rattle.std.proofs.lemmas.List.{get_or-map, get_or-replicate, length-map, length-replicate}
use Rattle.std.proofs.lemmas.List.Folds.{list_any_at}
use Rattle.machine_data.specs.declared.alternative.Row.{Row}
use Rattle.machine_data.specs.Alternative.{residue_of, rows_meet, collides}
use Rattle.mrt.specs.declared.rosters.slot.Slot.{Slot}
use Rattle.mrt.specs.Placements.{OperationAlternatives, Placements, Placement, placement_of, alternatives_of, rows_of, IsMetBy, IsFree, Holds}
use Rattle.mrt.specs.inner.Slots.{rows_in, meets_held, Occupies}
use Rattle.mrt.specs.Taken.{takes, Takes}
use Rattle.mrt.proofs.placements.Lists.{list_any_place, slice_get-set_same, slice_get-set_other}

-- ---- one row and its slot
pub takes_place : (ii : ℕ) (rows : List Row) (time unit residue : ℕ) → takes ii rows time unit residue ≡ true
    → (k : ℕ) × (k < length rows) × ((d : Row) → (unit ≡ (get_or rows k d).unit) × (residue ≡ residue_of ii (get_or rows k d) time))
takes_place ii rows time unit residue h =
    let p = list_any_place (λ (row : Row). eqb unit row.unit && eqb residue (residue_of ii row time)) rows h in (
      p.0,
      p.1,
      λ d.
          let both = and_parts (eqb unit (get_or rows p.0 d).unit) (eqb residue (residue_of ii (get_or rows p.0 d) time)) (p.2 d) in
          (eqb-true unit (get_or rows p.0 d).unit both.0, eqb-true residue (residue_of ii (get_or rows p.0 d) time) both.1),
    )

pub takes_at : (ii : ℕ) (rows : List Row) (time unit residue k : ℕ) (d : Row) → k < length rows → unit ≡ (get_or rows k d).unit → residue ≡ residue_of ii (get_or rows k d) time
    → takes ii rows time unit residue ≡ true
takes_at ii rows time unit residue k d lt u r =
    list_any_at (λ (row : Row). eqb unit row.unit && eqb residue (residue_of ii row time)) rows k d lt
    (and_from (eqb unit (get_or rows k d).unit) (eqb residue (residue_of ii (get_or rows k d) time)) (eq-eqb unit (get_or rows k d).unit u) (eq-eqb residue (residue_of ii (get_or rows k d) time) r))

module _ (ii : ℕ) (operations : OperationAlternatives) (placed : Placements) where
  -- ---- the definitions of the contract, by slots
  pub takes_from_met : (rows : List Row) (time other : ℕ) → IsMetBy ii operations placed rows time other
      → (k : ℕ) × (k < length rows) × ((d : Row) → Takes ii operations placed (get_or rows k d).unit (residue_of ii (get_or rows k d) time) other)
  takes_from_met rows time other m =
      let others = rows_of operations other m.at.alternative in
      let p = list_any_place (λ (r : Row). takes ii others m.at.time r.unit (residue_of ii r time)) rows m.meets in
      (p.0, p.1, λ d. record { at = m.at; is_placed = m.is_placed; takes = p.2 d })

  pub met_from_takes : (rows : List Row) (time other k : ℕ) (d : Row) → k < length rows
      → Takes ii operations placed (get_or rows k d).unit (residue_of ii (get_or rows k d) time) other → IsMetBy ii operations placed rows time other
  met_from_takes rows time other k d lt t =
      let others = rows_of operations other t.at.alternative in
      record { at = t.at; is_placed = t.is_placed; meets = list_any_at (λ (r : Row). takes ii others t.at.time r.unit (residue_of ii r time)) rows k d lt t.takes }

  pub takes_from_Holds : (row : Row) (time holder : ℕ) → Holds ii operations placed row time holder → Takes ii operations placed row.unit (residue_of ii row time) holder
  takes_from_Holds row time holder h =
      let rows = rows_of operations holder h.at.alternative in
      record { at = h.at; is_placed = h.is_placed; takes = list_any_at (λ (s : Row). rows_meet ii row time s h.at.time) rows h.own row h.own_there h.same }

  pub Holds-from_takes : (row : Row) (time holder : ℕ) → Takes ii operations placed row.unit (residue_of ii row time) holder → Holds ii operations placed row time holder
  Holds-from_takes row time holder t =
      let rows = rows_of operations holder t.at.alternative in
      let p = list_any_place (λ (s : Row). rows_meet ii row time s t.at.time) rows t.takes in
      record { at = t.at; is_placed = t.is_placed; own = p.0; own_there = p.1; same = p.2 row }

  -- ---- what is held decides what fits
  module _ (units : ℕ) (held : ℕ → ℕ → Bool) (some : 0 < ii) (occupied : Occupies ii units operations placed held) where
    pub meets_none : (rows : List Row) (time : ℕ) → All (λ r. r.unit < units) rows → meets_held ii held rows time ≡ false
        → (other : ℕ) → IsMetBy ii operations placed rows time other → ⊥
    meets_none rows time covered none other m =
        let p = takes_from_met rows time other m in
        let test = λ (row : Row). held row.unit (residue_of ii row time) in
        let d : Row = record { unit = 0; offset = 0 } in
        let at = get_or rows p.0 d in
        let taken = occupied.marked at.unit (residue_of ii at time) other (covered p.0 d p.1) (omega arith) (p.2 d) in
        both_ways (list_any test rows) none (list_any_at test rows p.0 d p.1 taken)

    pub meets_some : (rows : List Row) (time : ℕ) → All (λ r. r.unit < units) rows → meets_held ii held rows time ≡ true
        → (other : ℕ) × IsMetBy ii operations placed rows time other
    meets_some rows time covered any =
        let p = list_any_place (λ (row : Row). held row.unit (residue_of ii row time)) rows any in
        let d : Row = record { unit = 0; offset = 0 } in
        let at = get_or rows p.0 d in
        let t = occupied.owed at.unit (residue_of ii at time) (covered p.0 d p.1) (omega arith) (p.2 d) in
        (t.0, met_from_takes rows time t.0 p.0 d p.1 t.1)

    pub free_from_unmet : (op alternative time : ℕ) (met : Bool) → alternative < length (alternatives_of operations op)
        → All (λ r. r.unit < units) (rows_of operations op alternative) → collides ii (rows_of operations op alternative) ≡ false
        → met ≡ meets_held ii held (rows_of operations op alternative) time → (not met ≡ true) ↔ IsFree ii operations placed op time alternative
    free_from_unmet op alternative time met there covered sound is =
        let rows = rows_of operations op alternative in (
          λ h. record { there = there; fits = record { sound = sound; meets_none = meets_none rows time covered (sym is ∙ not-true met h) } },
          λ f.
              elim (cases_Bool met) [
                | inl meets ↦
                    let m = meets_some rows time covered (sym is ∙ meets) in
                    absurd (f.fits.meets_none m.0 m.1)
                | inr apart ↦ ap not apart
              ],
        )

-- ---- one operation more, and one less
placement_of-some : (placed : Placements) (op : ℕ) (at : Placement) → placement_of placed op ≡ Some at → slice_get placed op ≡ Some (Some at)
placement_of-some placed op at h =
    let P : Option (Option Placement) → Type 0 = λ o. option_flatten o ≡ Some at → o ≡ Some (Some at) in
    let all : (o : Option (Option Placement)) → P o = elim [ None ↦ λ e. absurd (none-some at e) | Some x ↦ λ e. ap (λ y. Some y) e ] in
    all (slice_get placed op) h

pub placed_within : (placed : Placements) (op : ℕ) (at : Placement) → placement_of placed op ≡ Some at → op < length placed
placed_within placed op at h = slice_get_within placed op (Some at) (placement_of-some placed op at h)

module _ (ii : ℕ) (operations : OperationAlternatives) (placed : Placements) (op : ℕ) where
  pub takes_other : (v : Option Placement) (unit residue x : ℕ) → x ≢ op → Takes ii operations placed unit residue x → Takes ii operations (set placed op v) unit residue x
  takes_other v unit residue x ne t = record { at = t.at; is_placed = ap option_flatten (slice_get-set_other placed op x v ne) ∙ t.is_placed; takes = t.takes }

  pub takes_own : (at : Placement) (unit residue : ℕ) → op < length placed → takes ii (rows_of operations op at.alternative) at.time unit residue ≡ true
      → Takes ii operations (set placed op (Some at)) unit residue op
  takes_own at unit residue lt t = record { at = at; is_placed = ap option_flatten (slice_get-set_same placed op (Some at) lt); takes = t }

  takes_before : (v : Option Placement) (unit residue x : ℕ) → x ≢ op → Takes ii operations (set placed op v) unit residue x → Takes ii operations placed unit residue x
  takes_before v unit residue x ne t = record { at = t.at; is_placed = ap option_flatten (sym (slice_get-set_other placed op x v ne)) ∙ t.is_placed; takes = t.takes }

  pub Takes-placed : (at : Placement) (unit residue x : ℕ) → Takes ii operations (set placed op (Some at)) unit residue x
      → ((x ≡ op) × (takes ii (rows_of operations op at.alternative) at.time unit residue ≡ true)) ⊎ ((x ≢ op) × Takes ii operations placed unit residue x)
  Takes-placed at unit residue x t =
      elim (cases_eq x op) [
        | inl same ↦
            let within : op < length placed = omega (arith, placed_within (set placed op (Some at)) x t.at t.is_placed, length-set placed op (Some at)) in
            let own = ap option_flatten (slice_get-set_same placed op (Some at) within) in
            let is : at ≡ t.at = same_Some at t.at (sym own ∙ ap (λ k. placement_of (set placed op (Some at)) k) (sym same) ∙ t.is_placed) in
            let P : ℕ → Placement → Type 0 = λ k p. takes ii (rows_of operations k p.alternative) p.time unit residue ≡ true in
            inl (same, subst (P op) (sym is) (subst (λ k. P k t.at) same t.takes))
        | inr other ↦ inr (other, takes_before (Some at) unit residue x other t)
      ]

  pub Takes-removed : (unit residue x : ℕ) → Takes ii operations (set placed op None) unit residue x → (x ≢ op) × Takes ii operations placed unit residue x
  Takes-removed unit residue x t =
      elim (cases_eq x op) [
        | inl same ↦
            let within : op < length placed = omega (arith, placed_within (set placed op None) x t.at t.is_placed, length-set placed op None) in
            let own = ap option_flatten (slice_get-set_same placed op None within) in
            absurd (none-some t.at (sym own ∙ ap (λ k. placement_of (set placed op None) k) (sym same) ∙ t.is_placed))
        | inr other ↦ (other, takes_before None unit residue x other t)
      ]

-- ---- nothing is placed at first
pub none_placed : (n op : ℕ) (at : Placement) → placement_of (replicate n None) op ≡ Some at → ⊥
none_placed n op at h =
    let within : op < n = omega (arith, placed_within (replicate n None) op at h, length-replicate {A = Option Placement} n None) in
    let there = slice_get-get_or (replicate n None) op None (placed_within (replicate n None) op at h) in
    none-some at (sym (ap option_flatten there ∙ get_or-replicate {A = Option Placement} n op None None within) ∙ h)

-- ---- a row by its place
pub row_at : (slots : List Slot) (rows : List Row) (k : ℕ) (r : Row) (d : Slot) → rows_in slots ≡ rows → slice_get rows k ≡ Some r → (get_or slots k d).row ≡ r
row_at slots rows k r d e h =
    let within : k < length slots = omega (arith, slice_get_within rows k r h, length-map slots (λ (s : Slot). s.row), ap length e) in
    sym (get_or-map (λ (s : Slot). s.row) slots k d r within) ∙ ap (λ rs. get_or rs k r) e ∙ get_or_from_slice_get rows k r r h

-- an operation that is placed, and not where it would take the slot
pub takes_not : (ii : ℕ) (operations : OperationAlternatives) (placed : Placements) (unit residue op : ℕ) (at : Placement) → Some at ≡ placement_of placed op
    → takes ii (rows_of operations op at.alternative) at.time unit residue ≡ false → Takes ii operations placed unit residue op → ⊥
takes_not ii operations placed unit residue op at is_at apart t =
    let same : t.at ≡ at = same_Some t.at at (sym t.is_placed ∙ sym is_at) in
    let P : Placement → Type 0 = λ p. takes ii (rows_of operations op p.alternative) p.time unit residue ≡ true in
    both_ways (takes ii (rows_of operations op at.alternative) at.time unit residue) apart (subst P same t.takes)

pub takes_unplaced : (ii : ℕ) (operations : OperationAlternatives) (placed : Placements) (unit residue op : ℕ) → None ≡ placement_of placed op → Takes ii operations placed unit residue op → ⊥
takes_unplaced ii operations placed unit residue op none t = none-some t.at (none ∙ t.is_placed)

pub unplaced_at_first : (n op : ℕ) → placement_of (replicate n None) op ≡ None
unplaced_at_first zero op = refl
unplaced_at_first (suc n) zero = refl
unplaced_at_first (suc n) (suc op) = unplaced_at_first n op
