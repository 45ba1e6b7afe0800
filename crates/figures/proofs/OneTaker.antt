-- In a schedule no two operations take one slot.
use Rattle.std.proofs.Common.{◌≡◌, ℕ, ◌<◌, Bool, true, false, eqb, List, length, get_or, refl, sym, ap, ◌∙◌}
use Rattle.std.specs.Prelude.{◌&&◌}
use Rattle.std.proofs.lemmas.Bool.{eqb-true, eq-eqb}
use Rattle.std.proofs.lemmas.List.{get_or_default}
use Rattle.std.proofs.lemmas.List.Folds.{Any-from_list_any}
use Rattle.machine_data.specs.declared.alternative.Row.{Row}
use Rattle.machine_data.specs.Alternative.{residue_of, rows_meet}
use Rattle.mrt.specs.Taken.{takes}
use Rattle.figures.specs.Slots.{SlotsHaveOneTaker, rows_at}

and-both : (a b : Bool) → (a && b) ≡ true → (a ≡ true) × (b ≡ true)
and-both true b e = (refl, e)
and-both false b e = absurd (cc)

both-and : (a b : Bool) → a ≡ true → b ≡ true → (a && b) ≡ true
both-and a b e f = ap (λ x. x && b) e ∙ f

-- one of the rows takes the slot
record IsTakenBy (ii : ℕ) (rows : List Row) (time unit row : ℕ) : Type 0 where
  place : ℕ
  held : Row
  there : place < length rows
  is : get_or rows place held ≡ held
  unit_is : unit ≡ held.unit
  row_is : row ≡ residue_of ii held time

taken-by : (ii : ℕ) (rows : List Row) (time unit row : ℕ) → takes ii rows time unit row ≡ true → IsTakenBy ii rows time unit row
taken-by ii rows time unit row e =
    let some = Any-from_list_any (λ (r : Row). (eqb unit r.unit) && (eqb row (residue_of ii r time))) rows e in
    let both = and-both (eqb unit some.1.unit) (eqb row (residue_of ii some.1 time)) some.4 in
    record {
      place = some.0;
      held = some.1;
      there = some.2;
      is = some.3;
      unit_is = eqb-true unit some.1.unit both.0;
      row_is = eqb-true row (residue_of ii some.1 time) both.1;
    }

pub slots-have_one_taker : SlotsHaveOneTaker
slots-have_one_taker schedule unit row op other is op-there other-there e f =
    let ii : ℕ = schedule.ii in
    let rows : List Row = rows_at schedule op in
    let others : List Row = rows_at schedule other in
    let time : ℕ = get_or schedule.times op 0 in
    let at : ℕ = get_or schedule.times other 0 in
    let x = taken-by ii rows time unit row e in
    let y = taken-by ii others at unit row f in
    let y-is : get_or others y.place x.held ≡ y.held = get_or_default others y.place x.held y.held y.there ∙ y.is in
    let meet : rows_meet ii x.held time y.held at ≡ true
    = both-and (eqb x.held.unit y.held.unit) (eqb (residue_of ii x.held time) (residue_of ii y.held at))
    (eq-eqb x.held.unit y.held.unit (sym x.unit_is ∙ y.unit_is)) (eq-eqb (residue_of ii x.held time) (residue_of ii y.held at) (sym x.row_is ∙ y.row_is)) in
    (is.lawful.keeps_units op other x.place y.place x.held op-there other-there x.there y.there
    (ap (λ (r : Row). rows_meet ii r time (get_or others y.place x.held) at) x.is ∙ ap (λ (r : Row). rows_meet ii x.held time r at) y-is ∙ meet)).0
