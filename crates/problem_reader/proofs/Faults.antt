-- What it says of the words of a line that they have no fault.
use Rattle.std.proofs.Common.{◌≡◌, ℕ, ℤ, zero, suc, pos, negsuc, ◌<◌, ◌≤◌, Bool, true, false, T, not, List, [], ◌∷◌, get_or, length, refl, sym, arith, subst, Option, Some, None, inl, inr}
use Rattle.std.specs.Prelude.{◌&&◌, ◌||◌, ◌≤ℤ◌, nat_lt, nat_le, int_le, unwrap_or}
use Rattle.std.specs.Option.{option_or}
use Rattle.std.proofs.lemmas.Bool.{false≢true, and_parts, leb-true, ltb-true, or_cases}
use Rattle.loop_lines.specs.Columns.{Placed}
use Rattle.problem_lines.specs.declared.number.Integer.{Integer}
use Rattle.problem_lines.specs.declared.number.Number.{Number}
use Rattle.problem_lines.specs.declared.number.Storage.{Storage}
use Rattle.problem_lines.specs.declared.number.Storage.TheVariants.{Rotating, Unallotted}
use Rattle.problems.specs.Drafts.{IsFile}
use Rattle.problem_tables.specs.Data.{file_of}
use Rattle.problem_tables.specs.Faults.{delay_fault, delay_fits, first_of, in_range, known, new, number_or_0, offset_fault, on_number, on_word, room_at, storage_fault, unless}
use Rattle.problem_tables.specs.Names.{has_name, index_of}
use Rattle.problem_faults.specs.declared.refused_problems.Part.{Part}
use Rattle.problem_tables.specs.declared.fault.Told.{Told}
use Rattle.problem_faults.specs.declared.refused_problems.Wrong.{Wrong}
use Rattle.problem_faults.specs.declared.refused_problems.Wrong.TheVariants as wrong
use Rattle.problem_tables.proofs.Naming.{place}

-- the first of some faults

one : {T : Type 0} (a b : Option T) → option_or a b ≡ None → a ≡ None
one None b h = refl
one (Some x) b h = cc

rest : {T : Type 0} (a b : Option T) → option_or a b ≡ None → b ≡ None
rest None b h = h
rest (Some x) b h = cc

-- each of some faults, by its number from 0
pub none-at : (faults : List (Option Told)) (k : ℕ) → first_of faults ≡ None → get_or faults k None ≡ None
none-at [] k h = refl
none-at (fault ∷ faults) zero h = one fault (first_of faults) h
none-at (fault ∷ faults) (suc k) h = none-at faults k (rest fault (first_of faults) h)

pub well : (b : Bool) (told : Told) → unless b told ≡ None → b ≡ true
well true told h = refl
well false told h = cc

pub not-true : (b : Bool) → not b ≡ true → b ≡ false
not-true true h = absurd (false≢true h)
not-true false h = refl

-- names

-- a name that is known has a number among the names
pub known-low : (names : List (List ℕ)) (what : Part) (w : Placed) → known names what w ≡ None → index_of names w.bytes < length names
known-low names what w h = (place names w.bytes).known (well (has_name names w.bytes) (on_word w (wrong.Unknown what)) h)

pub new-absent : (names : List (List ℕ)) (w : Placed) → new names w ≡ None → has_name names w.bytes ≡ false
new-absent names w h = not-true (has_name names w.bytes) (well (not (has_name names w.bytes)) (on_word w wrong.Repeated) h)

-- numbers

pub room-below : (told : Wrong → Told) (count most : ℕ) (what : Part) → room_at told count most what ≡ None → count < most
room-below told count most what h = ltb-true count most (well (nat_lt count most) (told (wrong.Count what)) h)

pub in-range : (least most : ℕ) (n : Number) → in_range least most n ≡ None → (least ≤ n.value) × (n.value ≤ most)
in-range least most n h =
    let both = and_parts (nat_le least n.value) (nat_le n.value most) (well (nat_le least n.value && nat_le n.value most) (on_number n wrong.Range) h) in
    (leb-true least n.value both.0, leb-true n.value most both.1)

pub offset-low : (most : ℕ) (n : Option Number) → offset_fault most n ≡ None → number_or_0 n ≤ most
offset-low most None h = omega arith
offset-low most (Some n) h = (in-range 0 most n h).1

pub storage-well : (storage : Storage) → storage_fault storage ≡ None → IsFile (file_of storage)
storage-well (Rotating registers) h = in-range 1 256 registers h
storage-well Unallotted h = tt

int-low : (a b : ℤ) → int_le a b ≡ true → a ≤ℤ b
int-low a b h = record { le = subst T (sym h) tt }

fits-well : (delay : Option ℤ) → delay_fits delay ≡ true → (negsuc 63 ≤ℤ unwrap_or delay (pos 0)) × (unwrap_or delay (pos 0) ≤ℤ pos 64)
fits-well None h = absurd (false≢true h)
fits-well (Some delay) h =
    let both = and_parts (int_le (negsuc 63) delay) (int_le delay (pos 64)) h in
    (int-low (negsuc 63) delay both.0, int-low delay (pos 64) both.1)

pub delay-well : (delay : Integer) → delay_fault delay ≡ None → (negsuc 63 ≤ℤ unwrap_or delay.value (pos 0)) × (unwrap_or delay.value (pos 0) ≤ℤ pos 64)
delay-well delay h = fits-well delay.value (well (delay_fits delay.value) (record { column = delay.column; width = delay.width; what = wrong.Range }) h)

-- what has to be so within an iteration
pub within-iteration : (distance : ℕ) (b : Bool) → (nat_lt 0 distance || b) ≡ true → distance ≡ 0 → b ≡ true
within-iteration distance b h none = elim (or_cases (nat_lt 0 distance) b h) [
  | inl later ↦ let more : 0 < distance = ltb-true 0 distance later in absurd (omega (arith, more, none))
  | inr is ↦ is
]
