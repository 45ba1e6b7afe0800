-- Alternatives that collide with themselves, and spans of slots that are added to.
use Rattle.std.proofs.Common.{◌≡◌, ℕ, ◌+◌, ◌-◌, ◌%◌, ◌<◌, ◌≤◌, false, ◌||◌, List, [], ◌∷◌, ◌++◌, length, get_or, map, take, drop, max, refl, sym, ap, ◌∙◌, subst, arith, zero-add, length-take}
use Rattle.std.specs.List.{All, list_any, slice_range}
use Rattle.std.proofs.lemmas.List.{drop_more, take_more, take_rest, map_push, get_or-map, length-map, take-map, drop-map}
use Rattle.std.proofs.lemmas.List.Elements.{All-push, All-head, All-tail, All-weaker, All-map, All-take, All-drop}
use Rattle.machine_data.specs.declared.alternative.Row.{Row}
use Rattle.machine_data.specs.Alternative.{residue_of, rows_meet, collides}
use Rattle.mrt.specs.declared.rosters.slot.Slot.{Slot}
use Rattle.mrt.specs.declared.rosters.choices.Span.{Span}
use Rattle.mrt.specs.inner.Slots.{IsSlot, slot_at, rows_in, needs_unit, HasUnits}
use Rattle.mrt.specs.inner.Choices.{rows_at, IsSpan, AreChoices}
use Rattle.mrt.specs.inner.Marks.{AreMultiples, Tells}
use Rattle.mrt.proofs.placements.Lists.{list_any-map, slice_range_kept}

-- the offset modulo the interval is the residue at time 0
turn_is : (ii : ℕ) (slot : Slot) → IsSlot ii slot → slot.turn ≡ residue_of ii slot.row 0
turn_is ii slot s = s.turn ∙ ap (λ n. n % ii) (sym (zero-add slot.row.offset))

pub meets_none : (ii : ℕ) (slot : Slot) (others : List Slot)
    → list_any (λ (s : Slot). rows_meet ii slot.row 0 s.row 0) others ≡ false
    → false ≡ list_any (λ s. rows_meet ii slot.row 0 s 0) (rows_in others)
meets_none ii slot others none = sym (list_any-map (λ s. rows_meet ii slot.row 0 s 0) (λ (x : Slot). x.row) others ∙ none)

-- the slot at a place, and those after it
pub collides-drop : (ii : ℕ) (slots : List Slot) (k : ℕ) (d : Slot) → k < length slots
    → collides ii (rows_in (drop k slots)) ≡ (list_any (λ s. rows_meet ii (get_or slots k d).row 0 s 0) (rows_in (drop (k + 1) slots)) || collides ii (rows_in (drop (k + 1) slots)))
collides-drop ii slots k d lt = ap (λ zs. collides ii (rows_in zs)) (drop_more slots k d lt)

-- an old span, after slots are added
pub IsSpan-kept : (old new : List Slot) (span : Span) → take (length old) new ≡ old → length old ≤ length new → IsSpan old span → IsSpan new span
IsSpan-kept old new span e le s = record {
  order = s.order;
  within = omega (arith, s.within);
  units = λ unit. s.units unit ∙ ap (λ zs. needs_unit unit (rows_in zs)) (sym (slice_range_kept old new span.start span.end e s.order s.within));
  gaps = λ ii multiples some are. ap (λ zs. collides ii (rows_in zs)) (slice_range_kept old new span.start span.end e s.order s.within) ∙ s.gaps ii multiples some are;
}

pub rows_at-kept : (old new : List Slot) (spans : List Span) → take (length old) new ≡ old → All (IsSpan old) spans → map (rows_at new) spans ≡ map (rows_at old) spans
rows_at-kept old new [] e all = refl
rows_at-kept old new (s ∷ spans) e all =
    let here = All-head (IsSpan old) s spans all in
    let same = ap rows_in (slice_range_kept old new s.start s.end e here.order here.within) in
    ap (λ x. x ∷ map (rows_at new) spans) same ∙ ap (λ xs. rows_at old s ∷ xs) (rows_at-kept old new spans e (All-tail (IsSpan old) s spans all))

longer : (old new : List Slot) → take (length old) new ≡ old → length old ≤ length new
longer old new e = omega (arith, length-take (length old) new, ap length e)

pub AreChoices-grown : (ii multiples : ℕ) (old new : List Slot) (spans : List Span) → AreChoices ii multiples old spans → All (IsSlot ii) new → take (length old) new ≡ old → AreChoices ii multiples new spans
AreChoices-grown ii multiples old new spans a slots e = record {
  some = a.some;
  few = a.few;
  turned = a.turned;
  each_slot = slots;
  each_span = All-weaker (IsSpan old) (IsSpan new) (λ span s. IsSpan-kept old new span e (longer old new e) s) spans a.each_span;
}

-- the slots that were added are a span of their own
pub AreChoices-pushed : (ii multiples : ℕ) (old new : List Slot) (spans : List Span) (span : Span) → AreChoices ii multiples old spans → All (IsSlot ii) new → take (length old) new ≡ old
    → span.start ≡ length old → span.end ≡ length new → HasUnits span.marks.units (rows_at new span) → Tells span.marks.gaps (λ at. collides at (rows_at new span))
    → AreChoices ii multiples new (spans ++ span ∷ [])
AreChoices-pushed ii multiples old new spans span a slots e from to u g =
    let grown = AreChoices-grown ii multiples old new spans a slots e in
    let le = longer old new e in
    let own : IsSpan new span = record { order = omega arith; within = omega arith; units = u; gaps = g } in
    record { some = a.some; few = a.few; turned = a.turned; each_slot = slots; each_span = All-push (IsSpan new) spans span grown.each_span own }

pub rows_at-pushed : (old new : List Slot) (spans : List Span) (span : Span) (rows : List Row) → All (IsSpan old) spans → take (length old) new ≡ old
    → span.start ≡ length old → span.end ≡ length new → rows_in (drop (length old) new) ≡ rows
    → map (rows_at new) (spans ++ span ∷ []) ≡ map (rows_at old) spans ++ rows ∷ []
rows_at-pushed old new spans span rows all e from to r =
    let own : rows_at new span ≡ rows = ap (λ n. rows_in (slice_range new n span.end)) from ∙ ap (λ n. rows_in (slice_range new (length old) n)) to ∙ ap rows_in (take_rest new (length old)) ∙ r in
    map_push (rows_at new) spans span ∙ ap (λ xs. xs ++ rows_at new span ∷ []) (rows_at-kept old new spans e all) ∙ ap (λ x. map (rows_at old) spans ++ x ∷ []) own

-- ---- the same alternatives at another interval
slice_range-map : {X Y : Type 0} (f : X → Y) (xs : List X) (i j : ℕ) → slice_range (map f xs) i j ≡ map f (slice_range xs i j)
slice_range-map f xs i j = ap (take (j - i)) (drop-map f i xs) ∙ take-map f (j - i) (drop i xs)

rows_in-slot_at : (ii : ℕ) (slots : List Slot) → rows_in (map (slot_at ii) slots) ≡ rows_in slots
rows_in-slot_at ii [] = refl
rows_in-slot_at ii (s ∷ slots) = ap (λ rows. s.row ∷ rows) (rows_in-slot_at ii slots)

rows_at-slot_at : (ii : ℕ) (slots : List Slot) (span : Span) → rows_at (map (slot_at ii) slots) span ≡ rows_at slots span
rows_at-slot_at ii slots span = ap rows_in (slice_range-map (slot_at ii) slots span.start span.end) ∙ rows_in-slot_at ii (slice_range slots span.start span.end)

pub All-slot_at : (was ii : ℕ) (slots : List Slot) → All (IsSlot was) slots → All (IsSlot ii) (map (slot_at ii) slots)
All-slot_at was ii slots all =
    All-map (IsSlot ii) (slot_at ii) slots (λ k d lt. let s = all k d lt in record { unit = s.unit; turn = refl; mask = s.mask })

pub AreChoices-at : (was before ii multiples : ℕ) (slots : List Slot) (spans : List Span) → AreChoices was before slots spans → 0 < ii → ii ≤ 16384 → AreMultiples ii multiples
    → AreChoices ii multiples (map (slot_at ii) slots) spans
AreChoices-at was before ii multiples slots spans a some few are =
    let new = map (slot_at ii) slots in
    record {
      some = some;
      few = few;
      turned = are;
      each_slot = All-slot_at was ii slots a.each_slot;
      each_span = All-weaker (IsSpan slots) (IsSpan new) (λ span s. record {
        order = s.order;
        within = omega (arith, s.within, length-map slots (slot_at ii));
        units = λ unit. s.units unit ∙ ap (needs_unit unit) (sym (rows_at-slot_at ii slots span));
        gaps = λ at of some are. ap (collides at) (rows_at-slot_at ii slots span) ∙ s.gaps at of some are;
      }) spans a.each_span;
    }

pub rows_at-reset : (ii : ℕ) (slots : List Slot) (spans : List Span) → map (rows_at (map (slot_at ii) slots)) spans ≡ map (rows_at slots) spans
rows_at-reset ii slots [] = refl
rows_at-reset ii slots (s ∷ spans) =
    let new = map (slot_at ii) slots in
    ap (λ rows. rows ∷ map (rows_at new) spans) (rows_at-slot_at ii slots s) ∙ ap (λ xs. rows_at slots s ∷ xs) (rows_at-reset ii slots spans)

-- units below a number, of the slots and of the alternatives that they make up
pub rows_at-covered : (units : ℕ) (slots : List Slot) (spans : List Span) → All (λ s. s.row.unit < units) slots → All (All (λ r. r.unit < units)) (map (rows_at slots) spans)
rows_at-covered units slots spans all =
    let P : Row → Type 0 = λ r. r.unit < units in
    let Q : Slot → Type 0 = λ s. s.row.unit < units in
    let each = λ (span : Span). All-map P (λ (s : Slot). s.row) (slice_range slots span.start span.end) (All-take Q (span.end - span.start) (drop span.start slots) (All-drop Q span.start slots all)) in
    All-map (All P) (rows_at slots) spans (λ k d lt. each (get_or spans k d))

-- one slot more
pub covered_more : (units more : ℕ) (slots : List Slot) (k : ℕ) (d : Slot) → k < length slots → (units ≤ 64) × All (λ s. s.row.unit < units) (take k slots)
    → (get_or slots k d).row.unit < 64 → more ≡ max units ((get_or slots k d).row.unit + 1) → (more ≤ 64) × All (λ s. s.row.unit < more) (take (k + 1) slots)
covered_more units more slots k d lt so_far few is =
    let P : Slot → Type 0 = λ s. s.row.unit < more in
    let own : (get_or slots k d).row.unit < more = omega (arith, is) in
    let others : All P (take k slots) = All-weaker (λ (s : Slot). s.row.unit < units) P (λ s less. omega (arith, is, less)) (take k slots) so_far.1 in
    (omega (arith, is, so_far.0, few), subst (All P) (sym (take_more slots k d lt)) (All-push P (take k slots) (get_or slots k d) others own))

pub covered_slots : (units : ℕ) (slots : List Slot) (rows : List Row) → rows_in slots ≡ rows → All (λ r. r.unit < units) rows → All (λ s. s.row.unit < units) slots
covered_slots units slots rows e all k d lt =
    let there : k < length rows = omega (arith, length-map slots (λ (s : Slot). s.row), ap length e) in
    let same : (get_or slots k d).row ≡ get_or rows k d.row = sym (get_or-map (λ (s : Slot). s.row) slots k d d.row lt) ∙ ap (λ rs. get_or rs k d.row) e in
    omega (arith, ap (λ (r : Row). r.unit) same, all k d.row there)

pub offset_slots : (slots : List Slot) (rows : List Row) → rows_in slots ≡ rows → All (λ r. r.offset < 64) rows → All (λ s. s.row.offset < 64) slots
offset_slots slots rows e all k d lt =
    let there : k < length rows = omega (arith, length-map slots (λ (s : Slot). s.row), ap length e) in
    let same : (get_or slots k d).row ≡ get_or rows k d.row = sym (get_or-map (λ (s : Slot). s.row) slots k d d.row lt) ∙ ap (λ rs. get_or rs k d.row) e in
    omega (arith, ap (λ (r : Row). r.offset) same, all k d.row there)

pub row_within : (slots : List Slot) (rows : List Row) (k : ℕ) → rows_in slots ≡ rows → k < length rows → k < length slots
row_within slots rows k e lt = omega (arith, length-map slots (λ (s : Slot). s.row), ap length e)

pub slot_units : (ii : ℕ) (slots : List Slot) (rows : List Row) → rows_in slots ≡ rows → All (IsSlot ii) slots → All (λ r. r.unit < 64) rows
slot_units ii slots rows e all =
    let P : Row → Type 0 = λ r. r.unit < 64 in
    rw (← e) (All-map P (λ (s : Slot). s.row) slots (λ k d lt. (all k d lt).unit))
