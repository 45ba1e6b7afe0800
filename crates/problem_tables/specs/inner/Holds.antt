-- The holds of a `kind` line, taken in one by one.
use Rattle.std.specs.Prelude.{◌≡◌, ◌&&◌, ◌==◌, ℕ, not, Bool, true, List, [], ◌∷◌, ◌++◌, length, map, Option}
use Rattle.std.specs.List.{All, list_any}
use Rattle.machine_data.specs.declared.limits.TheConstants.{MAX_OFFSET, MAX_OPERATION_ALTERNATIVES, MAX_ROWS}
use Rattle.problem_lines.specs.Forms.{HoldForm}
use Rattle.problems.specs.declared.draft.Hold.{Hold}
use Rattle.problem_tables.specs.Data.{hold_in}
use Rattle.problem_tables.specs.Faults.{first_of, unless, on_word, room_at, known, offset_fault, holds_fault, alternative_room}
use Rattle.problem_tables.specs.Names.{has_name}
use Rattle.problem_faults.specs.declared.refused_problems.Part.TheVariants as part
use Rattle.problem_tables.specs.declared.fault.Told.{Told}
use Rattle.problem_faults.specs.declared.refused_problems.Wrong.TheVariants as wrong

-- the first hold of an alternative tells that this alternative, after `count` others, is too many
abbrev pub crowd_fault : ℕ → List Hold → HoldForm → Option Told
crowd_fault count [] hold = room_at (on_word hold.unit) count MAX_OPERATION_ALTERNATIVES part.Alternatives
crowd_fault count (first ∷ sofar) hold = unless true (on_word hold.unit wrong.Place)

abbrev pub same_row : Hold → Hold → Bool
same_row a b = (a.unit == b.unit) && (a.offset == b.offset)

-- the faults of a hold after the holds `sofar` of its alternative, and `count` alternatives
abbrev pub hold_fault : List (List ℕ) → ℕ → List Hold → HoldForm → Option Told
hold_fault units count sofar hold = first_of (
    crowd_fault count sofar hold
    ∷ room_at (on_word hold.unit) (length sofar) MAX_ROWS part.Holds
    ∷ known units part.Units hold.unit
    ∷ offset_fault MAX_OFFSET hold.offset
    ∷ unless (not (list_any (same_row (hold_in units hold)) sofar)) (on_word hold.unit wrong.Repeated)
    ∷ [])

-- the faults of the alternative that has these holds after some others
abbrev pub rest_fault : List (List ℕ) → ℕ → List HoldForm → List HoldForm → Option Told
rest_fault units count [] holds = first_of (alternative_room count holds ∷ holds_fault units [] holds ∷ [])
rest_fault units count (first ∷ sofar) holds = holds_fault units (first ∷ sofar) holds

-- these holds have been taken in of an alternative, and those are left
pub record IsTaken (units : List (List ℕ)) (count : ℕ) (all : List HoldForm) (rows : List Hold) (left : List HoldForm) : Type 0 where
  pub sofar : List HoldForm
  pub whole : all ≡ sofar ++ left
  pub known : All (λ (hold : HoldForm). has_name units hold.unit.bytes ≡ true) sofar
  pub taken : rows ≡ map (hold_in units) sofar
  pub fault : rest_fault units count [] all ≡ rest_fault units count sofar left
