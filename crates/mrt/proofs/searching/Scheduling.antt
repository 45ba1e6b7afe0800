-- What a scheduler over a table wants to know of its answers.
use Rattle.std.proofs.Common.{◌≡◌, ◌≢◌, ℕ, ◌<◌, false, List, length, get_or, set, replicate, Some, None, refl, inl, inr}
use Rattle.std.specs.List.{slice_get}
use Rattle.std.proofs.lemmas.Bool.{cases_Bool}
use Rattle.std.proofs.lemmas.Option.{slice_get-get_or}
use Rattle.machine_data.specs.declared.alternative.Row.{Row}
use Rattle.machine_data.specs.Alternative.{residue_of, alternatives_meet, collides}
use Rattle.mrt.specs.Placements.{OperationAlternatives, Placements, Placement, placement_of, rows_of, IsMetBy, Fits, IsFree, Holds}
use Rattle.mrt.specs.Taken.{Takes, AreApart}
use Rattle.mrt.proofs.searching.Taking.{none_placed, takes_at, takes_from_met, takes_from_Holds, Holds-from_takes, Takes-removed}
use Rattle.mrt.proofs.slots.Marking.{AreApart-placed}

module _ (ii : ℕ) (operations : OperationAlternatives) (placed : Placements) where
  -- an alternative of which no row's slot has a holder fits, where it does not collide with itself
  pub fits_from_no_holders : (rows : List Row) (time : ℕ) → collides ii rows ≡ false
      → ((k : ℕ) (row : Row) → slice_get rows k ≡ Some row → (holder : ℕ) → Holds ii operations placed row time holder → ⊥) → Fits ii operations placed rows time
  fits_from_no_holders rows time sound none = record {
    sound = sound;
    meets_none = λ other m.
        let d : Row = record { unit = 0; offset = 0 } in
        let p = takes_from_met ii operations placed rows time other m in
        none p.0 (get_or rows p.0 d) (slice_get-get_or rows p.0 d p.1) other (Holds-from_takes ii operations placed (get_or rows p.0 d) time other (p.2 d));
  }

  -- who holds a slot once an operation is taken out held it before
  pub Holds-removed : (op : ℕ) (row : Row) (time holder : ℕ) → Holds ii operations (set placed op None) row time holder → (holder ≢ op) × Holds ii operations placed row time holder
  Holds-removed op row time holder h =
      let t = Takes-removed ii operations placed op row.unit (residue_of ii row time) holder (takes_from_Holds ii operations (set placed op None) row time holder h) in
      (t.0, Holds-from_takes ii operations placed row time holder t.1)

  -- ---- no two operations take one slot: kept by every claim and release
  pub AreApart-claimed : (op time alternative : ℕ) → op < length placed → placement_of placed op ≡ None → IsFree ii operations placed op time alternative
      → AreApart ii operations placed → AreApart ii operations (set placed op (Some (record { time = time; alternative = alternative })))
  AreApart-claimed op time alternative there unplaced free =
      let at : Placement = record { time = time; alternative = alternative } in
      AreApart-placed ii 64 operations placed op at there unplaced free.fits.meets_none

  pub AreApart-released : (op : ℕ) → AreApart ii operations placed → AreApart ii operations (set placed op None)
  AreApart-released op apart unit residue x y s t =
      apart unit residue x y (Takes-removed ii operations placed op unit residue x s).1 (Takes-removed ii operations placed op unit residue y t).1

  -- what that says of two placed operations
  pub unmet_from_apart : (x y : ℕ) (p q : Placement) → AreApart ii operations placed → placement_of placed x ≡ Some p → placement_of placed y ≡ Some q → x ≢ y
      → alternatives_meet ii (rows_of operations x p.alternative) p.time (rows_of operations y q.alternative) q.time ≡ false
  unmet_from_apart x y p q apart at_x at_y ne =
      let rows = rows_of operations x p.alternative in
      elim (cases_Bool (alternatives_meet ii rows p.time (rows_of operations y q.alternative) q.time)) [
        | inl meets ↦
            let d : Row = record { unit = 0; offset = 0 } in
            let m : IsMetBy ii operations placed rows p.time y = record { at = q; is_placed = at_y; meets = meets } in
            let t = takes_from_met ii operations placed rows p.time y m in
            let row = get_or rows t.0 d in
            let own : Takes ii operations placed row.unit (residue_of ii row p.time) x =
            record { at = p; is_placed = at_x; takes = takes_at ii rows p.time row.unit (residue_of ii row p.time) t.0 d t.1 refl refl } in
            absurd (ne (apart row.unit (residue_of ii row p.time) x y own (t.2 d)))
        | inr unmet ↦ unmet
      ]

pub AreApart-none : (ii : ℕ) (operations : OperationAlternatives) (n : ℕ) → AreApart ii operations (replicate n None)
AreApart-none ii operations n unit residue x y s t = absurd (none_placed n x s.at s.is_placed)
