-- What the unit bound is between, and below.
use Rattle.std.proofs.Common.{◌≡◌, ℕ, suc, ◌+◌, ◌*◌, ◌<◌, ◌≤◌, Bool, cond, List, [], ◌∷◌, ◌++◌, length, get_or, map, refl, sym, ap, ◌∙◌, subst, arith, eqb}
use Rattle.std.proofs.lemmas.List.{length-append, length-map, get_or-map}
use Rattle.std.proofs.lemmas.List.Elements.{All-head, All-tail}
use Rattle.std.proofs.lemmas.List.Sums.{sum_by-cons, count_by-le-length}
use Rattle.std.proofs.lemmas.Bool.{eq-eqb}
use Rattle.std.specs.List.{slice_index, flat_map, All}
use Rattle.machine_data.specs.declared.alternative.Row.{Row}
use Rattle.machine_data.specs.Alternative.{AreAlternatives, rows_meet}
use Rattle.unit_bound.specs.Units.{use_of, greatest_of, greatest_use, AreBest, chosen_rows, by_freedom, IsUnitBound}
use Rattle.edges.specs.Schedules.{IsPlan, KeepsUnits, issued_rows}
use Rattle.unit_bound.specs.Uses.{CountsRows}
use Rattle.unit_bound.proofs.Passes.{by_freedom_single, length-by_freedom, passes, passes_all, passes_keep, passes_past}
use Rattle.unit_bound.proofs.Pigeons.{Apart, use-le-interval}

greatest_of-le : (f : Row → ℕ) (bound : ℕ) → ((r : Row) → f r ≤ bound) → (rows : List Row) → greatest_of (map f rows) ≤ bound
greatest_of-le f bound h [] = omega arith
greatest_of-le f bound h (r ∷ rows) =
    let rest : greatest_of (map f rows) ≤ bound = greatest_of-le f bound h rows in
    let here : f r ≤ bound = h r in
    omega arith

greatest_use-le : (rows : List Row) (bound : ℕ) → ((unit : ℕ) → use_of rows unit ≤ bound) → greatest_use rows ≤ bound
greatest_use-le rows bound h = greatest_of-le (λ r. use_of rows r.unit) bound (λ r. h r.unit) rows

greatest_use-le-length : (rows : List Row) → greatest_use rows ≤ length rows
greatest_use-le-length rows = greatest_use-le rows (length rows) (λ unit. count_by-le-length (λ (r : Row). eqb r.unit unit) rows)

greatest_use-from_one : (rows : List Row) → 0 < length rows → 1 ≤ greatest_use rows
greatest_use-from_one [] some = absurd (omega arith)
greatest_use-from_one (r ∷ rows) some =
    let one_if : Bool → ℕ = λ b. cond b 1 0 in
    let a : use_of (r ∷ rows) r.unit ≡ one_if (eqb r.unit r.unit) + use_of rows r.unit = sum_by-cons (λ (s : Row). cond (eqb s.unit r.unit) 1 0) r rows in
    let b : one_if (eqb r.unit r.unit) ≡ 1 = ap one_if (eq-eqb r.unit r.unit refl) in
    omega arith

-- the choices of operations with one alternative are all that one
chosen-single : (taken : List Row) (operations : List (List (List Row))) (choices : List ℕ) → AreBest taken operations choices
    → All (λ alternatives. length alternatives ≡ 1) operations
    → chosen_rows operations choices ≡ flat_map (λ rows. rows) (map (λ (alternatives : List (List Row)). get_or alternatives 0 []) operations)
chosen-single taken [] choices best one = refl
chosen-single taken (first ∷ operations) [] best one = absurd best
chosen-single taken (first ∷ operations) (k ∷ choices) best one =
    let e : length first ≡ 1 = All-head (λ alternatives. length alternatives ≡ 1) first operations one in
    let there : k < length first = best.0.there in
    let zero : k ≡ 0 = omega arith in
    let rest : chosen_rows operations choices ≡ flat_map (λ rows. rows) (map (λ (alternatives : List (List Row)). get_or alternatives 0 []) operations)
    = chosen-single (taken ++ get_or first k []) operations choices best.1 (All-tail (λ alternatives. length alternatives ≡ 1) first operations one) in
    ap (λ i. get_or first i [] ++ chosen_rows operations choices) zero ∙ ap (λ l. get_or first 0 [] ++ l) rest

Apart-from_KeepsUnits : (ii : ℕ) (operations : List (List (List Row))) (times choices : List ℕ) → All (λ alternatives. length alternatives ≡ 1) operations
    → IsPlan operations times choices → KeepsUnits ii operations times choices → Apart ii (map (λ (alternatives : List (List Row)). get_or alternatives 0 []) operations) times
Apart-from_KeepsUnits ii operations times choices one plan keeps =
    let first : List (List Row) → List Row = λ alternatives. get_or alternatives 0 [] in
    let long : length (map first operations) ≡ length operations = length-map operations first in
    let same : (p : ℕ) → p < length operations → get_or (map first operations) p [] ≡ issued_rows operations choices p
    = λ p h.
    let e : length (get_or operations p []) ≡ 1 = one p [] h in
    let there : slice_index choices p < length (get_or operations p []) = plan.there p h in
    let zero : slice_index choices p ≡ 0 = omega arith in
    get_or-map first operations p [] [] h ∙ ap (λ i. get_or (get_or operations p []) i []) (sym zero) in
    λ p q i j d l m n o meet.
    let hp : p < length operations = omega arith in
    let hq : q < length operations = omega arith in
    let sp : get_or (map first operations) p [] ≡ issued_rows operations choices p = same p hp in
    let sq : get_or (map first operations) q [] ≡ issued_rows operations choices q = same q hq in
    keeps p q i j d hp hq (subst (λ rows. i < length rows) sp n) (subst (λ rows. j < length rows) sq o)
    (ap (λ rows. rows_meet ii (get_or rows i d) (slice_index times p) (get_or (issued_rows operations choices q) j d) (slice_index times q)) (sym sp)
    ∙ ap (λ rows. rows_meet ii (get_or (get_or (map first operations) p []) i d) (slice_index times p) (get_or rows j d) (slice_index times q)) (sym sq)
    ∙ meet)

-- no times keep the units at a smaller interval
pub bound-le-interval : (operations : List (List (List Row))) (bound : ℕ) → IsUnitBound operations bound → All (λ alternatives. length alternatives ≡ 1) operations
    → (ii : ℕ) (times choices : List ℕ) → 0 < ii → IsPlan operations times choices → KeepsUnits ii operations times choices → bound ≤ ii
bound-le-interval operations bound b one ii times choices some plan keeps =
    let firsts : List (List Row) = map (λ (alternatives : List (List Row)). get_or alternatives 0 []) operations in
    let order : by_freedom operations ≡ operations = by_freedom_single operations one in
    let best : AreBest [] operations b.choices = subst (λ l. AreBest [] l b.choices) order b.best in
    let rows : chosen_rows (by_freedom operations) b.choices ≡ flat_map (λ rows. rows) firsts
    = ap (λ l. chosen_rows l b.choices) order ∙ chosen-single [] operations b.choices best one in
    let apart : Apart ii firsts times = Apart-from_KeepsUnits ii operations times choices one plan keeps in
    let most : greatest_use (flat_map (λ rows. rows) firsts) ≤ ii
    = greatest_use-le (flat_map (λ rows. rows) firsts) ii (λ unit. use-le-interval ii unit firsts times some apart) in
    let is : bound ≡ greatest_use (flat_map (λ rows. rows) firsts) = b.is_use ∙ ap greatest_use rows in
    omega arith

chosen-length : (taken : List Row) (operations : List (List (List Row))) (choices : List ℕ) → AreBest taken operations choices → All AreAlternatives operations
    → length (chosen_rows operations choices) ≤ 16 * length operations
chosen-length taken [] choices best h = omega arith
chosen-length taken (first ∷ operations) [] best h = absurd best
chosen-length taken (first ∷ operations) (k ∷ choices) best h =
    let there : k < length first = best.0.there in
    let here : length (get_or first k []) ≤ 16 = ((All-head AreAlternatives first operations h).each k [] there).few in
    let rest : length (chosen_rows operations choices) ≤ 16 * length operations
    = chosen-length (taken ++ get_or first k []) operations choices best.1 (All-tail AreAlternatives first operations h) in
    let a : length (get_or first k [] ++ chosen_rows operations choices) ≡ length (get_or first k []) + length (chosen_rows operations choices)
    = length-append (get_or first k []) (chosen_rows operations choices) in
    let b : 16 * suc (length operations) ≡ 16 * length operations + 16 = omega arith in
    omega arith

chosen-some : (taken : List Row) (operations : List (List (List Row))) (choices : List ℕ) → AreBest taken operations choices → All AreAlternatives operations
    → 0 < length operations → 0 < length (chosen_rows operations choices)
chosen-some taken [] choices best h some = absurd (omega arith)
chosen-some taken (first ∷ operations) [] best h some = absurd best
chosen-some taken (first ∷ operations) (k ∷ choices) best h some =
    let there : k < length first = best.0.there in
    let here : 0 < length (get_or first k []) = ((All-head AreAlternatives first operations h).each k [] there).some in
    let a : length (get_or first k [] ++ chosen_rows operations choices) ≡ length (get_or first k []) + length (chosen_rows operations choices)
    = length-append (get_or first k []) (chosen_rows operations choices) in
    omega arith

by_freedom_well_formed : (operations : List (List (List Row))) → All AreAlternatives operations → All AreAlternatives (by_freedom operations)
by_freedom_well_formed operations h = subst (All AreAlternatives) (passes_all operations) (passes_keep AreAlternatives operations 16 h)

-- the bound is 1 or more, and at most 16 for each operation
pub bound-range : (operations : List (List (List Row))) (bound : ℕ) → IsUnitBound operations bound → All AreAlternatives operations → 0 < length operations
    → (1 ≤ bound) × (bound ≤ 16 * length operations)
bound-range operations bound b h some =
    let formed : All AreAlternatives (by_freedom operations) = by_freedom_well_formed operations h in
    let long : length (by_freedom operations) ≡ length operations
    = length-by_freedom operations (λ k d l. (h k d l).some) (λ k d l. (h k d l).few) in
    let rows : List Row = chosen_rows (by_freedom operations) b.choices in
    let is : bound ≡ greatest_use rows = b.is_use in
    let there : 0 < length (by_freedom operations) = omega arith in
    let low : 1 ≤ greatest_use rows = greatest_use-from_one rows (chosen-some [] (by_freedom operations) b.choices b.best formed there) in
    let high : greatest_use rows ≤ length rows = greatest_use-le-length rows in
    let few : length rows ≤ 16 * length (by_freedom operations) = chosen-length [] (by_freedom operations) b.choices b.best formed in
    let same : 16 * length (by_freedom operations) ≡ 16 * length operations = ap (λ n. 16 * n) long in
    (omega arith, omega arith)

-- the passes up to the greatest number of alternatives, or to a greater number, take all operations
pub CountsRows-all : (operations : List (List (List Row))) (most n : ℕ) (counts : List ℕ) (greatest : ℕ) → All (λ alternatives. length alternatives ≤ most) operations
    → most ≤ 16 → most ≤ n → CountsRows (passes operations n) counts greatest → CountsRows (by_freedom operations) counts greatest
CountsRows-all operations most n counts greatest few low past p =
    let order : passes operations n ≡ by_freedom operations
    = passes_past operations most n few past ∙ sym (passes_past operations most 16 few low) ∙ passes_all operations in
    subst (λ l. CountsRows l counts greatest) order p

pub IsUnitBound-from : (operations : List (List (List Row))) (counts : List ℕ) (greatest bound : ℕ)
    → CountsRows (by_freedom operations) counts greatest → bound ≡ greatest → IsUnitBound operations bound
IsUnitBound-from operations counts greatest bound p is = record { choices = p.choices; best = p.best; is_use = is ∙ p.tallies.most }
