-- Rows are cleared of the operations that hold their slots, one row after another.
use Rattle.std.proofs.Common.{◌≡◌, ℕ, ◌+◌, ◌<◌, false, List, length, get_or, set, Option, Some, None, refl, sym, ap, ◌∙◌, subst, inl, inr, arith, length-set}
use Rattle.std.specs.List.{slice_get}
use Rattle.std.specs.Option.{option_flatten}
use Rattle.std.proofs.lemmas.Bool.{cases_eq}
use Rattle.std.proofs.lemmas.Option.{none-some, same_Some, slice_get_within, get_or_from_slice_get, slice_get-get_or}
use Rattle.machine_data.specs.declared.alternative.Row.{Row}
use Rattle.machine_data.specs.Alternative.{residue_of, collides}
use Rattle.mrt.specs.Placements.{OperationAlternatives, Placements, Placement, placement_of, rows_of, IsMetBy, Fits, Holds, IsHolder}
use Rattle.mrt.specs.Taken.{Takes}
use Rattle.mrt.proofs.placements.Lists.{slice_get-set_same, slice_get-set_other}
use Rattle.mrt.proofs.searching.Taking.{takes_from_Holds, met_from_takes, placed_within}
use Rattle.mrt.proofs.searching.Scheduling.{Holds-removed, fits_from_no_holders}
use Rattle.modulo.specs.inner.Evictions.{AreCleared}

module _ (ii : ℕ) (operations : OperationAlternatives) (placed : Placements) (rows : List Row) (time : ℕ) where
  pub AreCleared-none : AreCleared ii operations placed placed rows time 0
  AreCleared-none = record { each = λ q. inl refl; clear = λ k row below is holder h. absurd (omega arith); whole = refl }

  module _ (left : Placements) (k : ℕ) (row : Row) (is : slice_get rows k ≡ Some row) (c : AreCleared ii operations placed left rows time k) where
    pub AreCleared-skip : ((holder : ℕ) → Holds ii operations left row time holder → ⊥) → AreCleared ii operations placed left rows time (k + 1)
    AreCleared-skip never = record {
      each = c.each;
      clear = λ j other below at holder h. elim (cases_eq j k) [
        | inl same ↦ never holder (subst (λ r. Holds ii operations left r time holder)
            (same_Some other row (sym at ∙ ap (slice_get rows) same ∙ is)) h)
        | inr before ↦ c.clear j other (omega arith) at holder h
      ];
      whole = c.whole;
    }

    -- who holds the slot now held it before, and so takes it
    met : (holder : ℕ) → Holds ii operations left row time holder → IsMetBy ii operations placed rows time holder
    met holder h =
        let t : Takes ii operations left row.unit (residue_of ii row time) holder = takes_from_Holds ii operations left row time holder h in
        let before : placement_of placed holder ≡ Some t.at = elim (c.each holder) [
          | inl stays ↦ sym stays ∙ t.is_placed
          | inr out ↦ absurd (none-some t.at (sym out.0 ∙ t.is_placed))
        ] in
        let old : Takes ii operations placed row.unit (residue_of ii row time) holder = record { at = t.at; is_placed = before; takes = t.takes } in
        let here : row ≡ get_or rows k row = sym (get_or_from_slice_get rows k row row is) in
        met_from_takes ii operations placed rows time holder k row (slice_get_within rows k row is)
        (subst (λ (r : Row). Takes ii operations placed r.unit (residue_of ii r time) holder) here old)

    pub AreCleared-more : (holder : ℕ) → Holds ii operations left row time holder → ((other : ℕ) → Holds ii operations left row time other → other ≡ holder)
        → AreCleared ii operations placed (set left holder None) rows time (k + 1)
    AreCleared-more holder h one =
        let within : holder < length left = placed_within left holder h.at h.is_placed in
        let none : Option Placement = None in
        record {
          each = λ q. elim (cases_eq q holder) [
            | inl same ↦ inr (subst (λ (j : ℕ). (placement_of (set left holder none) j ≡ None) × IsMetBy ii operations placed rows time j) (sym same)
                (ap option_flatten (slice_get-set_same left holder none within), met holder h))
            | inr other ↦
                let same : placement_of (set left holder none) q ≡ placement_of left q = ap option_flatten (slice_get-set_other left holder q none other) in
                elim (c.each q) [
                  | inl stays ↦ inl (same ∙ stays)
                  | inr out ↦ inr (same ∙ out.0, out.1)
                ]
          ];
          clear = λ j other below at another taken.
              let r = Holds-removed ii operations left holder other time another taken in
              elim (cases_eq j k) [
                | inl same ↦ r.0 (one another (subst (λ r. Holds ii operations left r time another) (same_Some other row (sym at ∙ ap (slice_get rows) same ∙ is)) r.1))
                | inr before ↦ c.clear j other (omega arith) at another r.1
              ];
          whole = length-set left holder none ∙ c.whole;
        }

  pub AreCleared-all : (left : Placements) (done : ℕ) → collides ii rows ≡ false → length rows ≡ done → AreCleared ii operations placed left rows time done
      → Fits ii operations left rows time
  AreCleared-all left done sound all c = fits_from_no_holders ii operations left rows time sound
      (λ k row is. c.clear k row (let h : k < length rows = slice_get_within rows k row is in omega arith) is)

-- the holder of a row's slot, as a table of these operations at this interval tells it
pub holder_of : (ii ii' : ℕ) (operations operations' : OperationAlternatives) (left : Placements) (op alternative k time : ℕ) (d : Row) (found : Option ℕ)
    → operations' ≡ operations → ii' ≡ ii → k < length (rows_of operations op alternative)
    → ((r : Row) → slice_get (rows_of operations' op alternative) k ≡ Some r → IsHolder ii' operations' left r time found)
    → IsHolder ii operations left (get_or (rows_of operations op alternative) k d) time found
holder_of ii ii' operations operations' left op alternative k time d found same interval below h =
    let Q : OperationAlternatives → ℕ → Type 0 = λ os i. (r : Row) → slice_get (rows_of os op alternative) k ≡ Some r → IsHolder i os left r time found in
    let q : Q operations ii = subst (λ os. Q os ii) same (subst (Q operations') interval h) in
    q (get_or (rows_of operations op alternative) k d) (slice_get-get_or (rows_of operations op alternative) k d below)

pub row_at : (operations : OperationAlternatives) (op alternative k : ℕ) (d : Row) → k < length (rows_of operations op alternative)
    → slice_get (rows_of operations op alternative) k ≡ Some (get_or (rows_of operations op alternative) k d)
row_at operations op alternative k d below = slice_get-get_or (rows_of operations op alternative) k d below
