-- The holds of a `kind` line, taken in one by one.
use Rattle.std.proofs.Common.{◌≡◌, ℕ, ◌++◌, Bool, true, false, not, List, [], ◌∷◌, length, map, refl, sym, ap, ◌∙◌, append_assoc, Some, None}
use Rattle.std.specs.Prelude.{◌||◌, ◌&&◌, ◌==◌}
use Rattle.std.specs.List.{All, list_any}
use Rattle.std.specs.Option.{option_or}
use Rattle.std.proofs.lemmas.List.{length-map, map-append}
use Rattle.std.proofs.lemmas.List.Elements.{All-push, All-head, All-tail}
use Rattle.problem_lines.specs.Forms.{HoldForm}
use Rattle.problems.specs.declared.draft.Hold.{Hold}
use Rattle.problem_tables.specs.Data.{hold_in}
use Rattle.problem_tables.specs.Faults.{unless, on_word, room_at, known, offset_fault, same_hold, holds_fault, number_or_0}
use Rattle.problem_tables.specs.Names.{has_name}
use Rattle.problem_faults.specs.declared.refused_problems.Part.TheVariants as part
use Rattle.problem_tables.specs.declared.fault.Told.{Told}
use Rattle.problem_faults.specs.declared.refused_problems.Wrong.TheVariants as wrong
use Rattle.problem_tables.specs.inner.Holds.{crowd_fault, hold_fault, same_row, rest_fault, IsTaken}
use Rattle.problem_tables.proofs.Firsts.{or-none, after-5, pass-5, fail-5, third-none}
use Rattle.problem_tables.proofs.Naming.{index-tells}

-- a unit that is held is there
abbrev pub IsKnown : List (List ℕ) → HoldForm → Type 0
IsKnown units hold = has_name units hold.unit.bytes ≡ true

-- of units that are there, rows are the same just where the holds are
pub same-rows : (units : List (List ℕ)) (hold : HoldForm) (sofar : List HoldForm) → IsKnown units hold → All (IsKnown units) sofar
    → list_any (same_row (hold_in units hold)) (map (hold_in units) sofar) ≡ list_any (same_hold hold) sofar
same-rows units hold [] known all = refl
same-rows units hold (other ∷ sofar) known all =
    ap (λ b. (b && (number_or_0 hold.offset == number_or_0 other.offset)) || list_any (same_row (hold_in units hold)) (map (hold_in units) sofar))
    (index-tells units hold.unit.bytes other.unit.bytes known (All-head (IsKnown units) other sofar all))
    ∙ ap (λ b. same_hold hold other || b) (same-rows units hold sofar known (All-tail (IsKnown units) other sofar all))

-- what is left of an alternative, by its first hold
rest-step : (units : List (List ℕ)) (count : ℕ) (sofar : List HoldForm) (hold : HoldForm) (holds : List HoldForm)
    → rest_fault units count sofar (hold ∷ holds)
    ≡ after-5 (crowd_fault count (map (hold_in units) sofar) hold) (room_at (on_word hold.unit) (length sofar) 16 part.Holds) (known units part.Units hold.unit)
    (offset_fault 63 hold.offset) (unless (not (list_any (same_hold hold) sofar)) (on_word hold.unit wrong.Repeated)) (rest_fault units count (sofar ++ hold ∷ []) holds)
rest-step units count [] hold holds =
    ap (option_or (room_at (on_word hold.unit) count 16 part.Alternatives))
    (or-none (holds_fault units [] (hold ∷ holds))
    ∙ ap (after-5 (room_at (on_word hold.unit) 0 16 part.Holds) (known units part.Units hold.unit) (offset_fault 63 hold.offset) None None) (or-none (holds_fault units (hold ∷ []) holds)))
rest-step units count (first ∷ sofar) hold holds =
    ap (after-5 None (room_at (on_word hold.unit) (length (first ∷ sofar)) 16 part.Holds) (known units part.Units hold.unit) (offset_fault 63 hold.offset)
    (unless (not (list_any (same_hold hold) (first ∷ sofar))) (on_word hold.unit wrong.Repeated))) (or-none (holds_fault units (first ∷ (sofar ++ hold ∷ [])) holds))

known-has : (b : Bool) (told : Told) → unless b told ≡ None → b ≡ true
known-has true told h = refl
known-has false told h = cc

-- the fault of a hold, by the holds so far
hold-faults : (units : List (List ℕ)) (count : ℕ) (sofar : List HoldForm) (rows : List Hold) (hold : HoldForm) → rows ≡ map (hold_in units) sofar
    → hold_fault units count rows hold
    ≡ after-5 (crowd_fault count (map (hold_in units) sofar) hold) (room_at (on_word hold.unit) (length sofar) 16 part.Holds) (known units part.Units hold.unit)
    (offset_fault 63 hold.offset) (unless (not (list_any (same_row (hold_in units hold)) (map (hold_in units) sofar))) (on_word hold.unit wrong.Repeated)) None
hold-faults units count sofar rows hold is =
    ap (λ rs. hold_fault units count rs hold) is
    ∙ ap (λ n. after-5 (crowd_fault count (map (hold_in units) sofar) hold) (room_at (on_word hold.unit) n 16 part.Holds) (known units part.Units hold.unit)
    (offset_fault 63 hold.offset) (unless (not (list_any (same_row (hold_in units hold)) (map (hold_in units) sofar))) (on_word hold.unit wrong.Repeated)) None) (length-map sofar (hold_in units))

-- the last of the five faults, where the unit is there
same-repeated : (units : List (List ℕ)) (hold : HoldForm) (sofar : List HoldForm) → All (IsKnown units) sofar → known units part.Units hold.unit ≡ None
    → unless (not (list_any (same_row (hold_in units hold)) (map (hold_in units) sofar))) (on_word hold.unit wrong.Repeated)
    ≡ unless (not (list_any (same_hold hold) sofar)) (on_word hold.unit wrong.Repeated)
same-repeated units hold sofar all none =
    ap (λ b. unless (not b) (on_word hold.unit wrong.Repeated))
    (same-rows units hold sofar (known-has (has_name units hold.unit.bytes) (on_word hold.unit (wrong.Unknown part.Units)) none) all)

pub taken-more : (units : List (List ℕ)) (count : ℕ) (all : List HoldForm) (rows more : List Hold) (hold : HoldForm) (left holds : List HoldForm)
    → IsTaken units count all rows left → left ≡ hold ∷ holds → hold_fault units count rows hold ≡ None → more ≡ rows ++ hold_in units hold ∷ []
    → IsTaken units count all more holds
taken-more units count all rows more hold left holds t first none pushed =
    let none' = sym (hold-faults units count t.sofar rows hold t.taken) ∙ none in
    let there = third-none (crowd_fault count (map (hold_in units) t.sofar) hold) (room_at (on_word hold.unit) (length t.sofar) 16 part.Holds) (known units part.Units hold.unit)
    (offset_fault 63 hold.offset) (unless (not (list_any (same_row (hold_in units hold)) (map (hold_in units) t.sofar))) (on_word hold.unit wrong.Repeated)) none' in
    record {
      sofar = t.sofar ++ hold ∷ [];
      whole = t.whole ∙ ap (λ hs. t.sofar ++ hs) first ∙ sym (append_assoc t.sofar (hold ∷ []) holds);
      known = All-push (IsKnown units) t.sofar hold t.known (known-has (has_name units hold.unit.bytes) (on_word hold.unit (wrong.Unknown part.Units)) there);
      taken = pushed ∙ ap (λ rs. rs ++ hold_in units hold ∷ []) t.taken ∙ sym (map-append (hold_in units) t.sofar (hold ∷ []));
      fault = t.fault ∙ ap (rest_fault units count t.sofar) first ∙ rest-step units count t.sofar hold holds
          ∙ pass-5 (crowd_fault count (map (hold_in units) t.sofar) hold) (room_at (on_word hold.unit) (length t.sofar) 16 part.Holds) (known units part.Units hold.unit)
          (offset_fault 63 hold.offset) _ _ (rest_fault units count (t.sofar ++ hold ∷ []) holds) (same-repeated units hold t.sofar t.known) none';
    }

pub taken-fault : (units : List (List ℕ)) (count : ℕ) (all : List HoldForm) (rows : List Hold) (hold : HoldForm) (left holds : List HoldForm) (told : Told)
    → IsTaken units count all rows left → left ≡ hold ∷ holds → hold_fault units count rows hold ≡ Some told → rest_fault units count [] all ≡ Some told
taken-fault units count all rows hold left holds told t first some =
    t.fault ∙ ap (rest_fault units count t.sofar) first ∙ rest-step units count t.sofar hold holds
    ∙ fail-5 (crowd_fault count (map (hold_in units) t.sofar) hold) (room_at (on_word hold.unit) (length t.sofar) 16 part.Holds) (known units part.Units hold.unit)
    (offset_fault 63 hold.offset) _ _ (rest_fault units count (t.sofar ++ hold ∷ []) holds) told (same-repeated units hold t.sofar t.known)
    (sym (hold-faults units count t.sofar rows hold t.taken) ∙ some)
