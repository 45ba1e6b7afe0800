-- The rows of a lawful schedule that are of units of a set are at most as many as the set has slots.
use Rattle.std.proofs.Common.{◌≡◌, ℕ, zero, suc, ◌+◌, ◌*◌, ◌<◌, ◌≤◌, ◌||◌, min, Bool, true, false, cond, List, [], ◌∷◌, ◌++◌, length, get_or, map, drop, refl, sym, ap, ◌∙◌, subst, inl, inr, arith, eqb}
use Rattle.std.proofs.lemmas.Bool.{cases_eq, eq-eqb, ne_eqb}
use Rattle.std.proofs.lemmas.List.Sums.{sum_by-cons, sum_by-append}
use Rattle.std.specs.List.{slice_index, flat_map, fold}
use Rattle.machine_data.specs.declared.alternative.Row.{Row}
use Rattle.machine_data.specs.Alternative.{rows_meet}
use Rattle.edges.specs.Edges.{EdgeData}
use Rattle.unit_bound.specs.Units.{use_of}
use Rattle.edges.specs.Schedules.{IsLawfulSchedule, KeepsUnits, issued_rows}
use Rattle.unit_bound.proofs.Pigeons.{Apart, use-le-interval}
use Rattle.unit_sets.specs.Sets.{is_in, rows_in, least_of, least_rows, set_rows}

-- no number is less than the least of them
fold_min-le : (n : ℕ) (ns : List ℕ) → fold min n ns ≤ n
fold_min-le n [] = omega arith
fold_min-le n (m ∷ ns) = let h : fold min (min n m) ns ≤ min n m = fold_min-le (min n m) ns in omega arith

fold_min-at : (n : ℕ) (ns : List ℕ) (i : ℕ) → i < length ns → fold min n ns ≤ get_or ns i 0
fold_min-at n [] i l = absurd (omega arith)
fold_min-at n (m ∷ ns) zero l = let h : fold min (min n m) ns ≤ min n m = fold_min-le (min n m) ns in omega arith
fold_min-at n (m ∷ ns) (suc i) l = fold_min-at (min n m) ns i (omega arith)

least_of-le : (ns : List ℕ) (i : ℕ) → i < length ns → least_of ns ≤ get_or ns i 0
least_of-le [] i l = absurd (omega arith)
least_of-le (n ∷ ns) zero l = fold_min-le n ns
least_of-le (n ∷ ns) (suc i) l = fold_min-at n ns i (omega arith)

get_or-rows_in : (set : List ℕ) (alternatives : List (List Row)) (i : ℕ) → i < length alternatives
    → (i < length (map (rows_in set) alternatives)) × (get_or (map (rows_in set) alternatives) i 0 ≡ rows_in set (get_or alternatives i []))
get_or-rows_in set [] i l = absurd (omega arith)
get_or-rows_in set (rows ∷ alternatives) zero l = (omega arith, refl)
get_or-rows_in set (rows ∷ alternatives) (suc i) l = let h = get_or-rows_in set alternatives i (omega arith) in (let k : i < length (map (rows_in set) alternatives) = h.0 in omega arith, h.1)

pub least_rows-le : (set : List ℕ) (alternatives : List (List Row)) (i : ℕ) → i < length alternatives
    → least_rows set alternatives ≤ rows_in set (get_or alternatives i [])
least_rows-le set alternatives i l =
    let h = get_or-rows_in set alternatives i l in
    let a : least_of (map (rows_in set) alternatives) ≤ get_or (map (rows_in set) alternatives) i 0 = least_of-le (map (rows_in set) alternatives) i h.0 in
    subst (λ n. least_of (map (rows_in set) alternatives) ≤ n) h.1 a

-- the rows by which the operations are issued
abbrev issued : List (List (List Row)) → List ℕ → List (List Row)
issued [] choices = []
issued (alternatives ∷ operations) choices = get_or alternatives (slice_index choices 0) [] ∷ issued operations (drop 1 choices)

length-issued : (operations : List (List (List Row))) (choices : List ℕ) → length (issued operations choices) ≡ length operations
length-issued [] choices = refl
length-issued (alternatives ∷ operations) choices = ap suc (length-issued operations (drop 1 choices))

after_one : (choices : List ℕ) (p : ℕ) → slice_index (drop 1 choices) p ≡ slice_index choices (suc p)
after_one [] p = refl
after_one (k ∷ choices) p = refl

get_or-issued : (operations : List (List (List Row))) (choices : List ℕ) (p : ℕ) → p < length operations
    → get_or (issued operations choices) p [] ≡ issued_rows operations choices p
get_or-issued [] choices p l = absurd (omega arith)
get_or-issued (alternatives ∷ operations) choices zero l = refl
get_or-issued (alternatives ∷ operations) choices (suc p) l =
    get_or-issued operations (drop 1 choices) p (omega arith)
    ∙ ap (λ k. get_or (get_or operations p []) k []) (after_one choices p)

Apart-issued : (ii : ℕ) (operations : List (List (List Row))) (times choices : List ℕ) → KeepsUnits ii operations times choices
    → Apart ii (issued operations choices) times
Apart-issued ii operations times choices keeps = λ p q i j d l m n o meet.
    let long : length (issued operations choices) ≡ length operations = length-issued operations choices in
    let hp : p < length operations = omega arith in
    let hq : q < length operations = omega arith in
    let sp : get_or (issued operations choices) p [] ≡ issued_rows operations choices p = get_or-issued operations choices p hp in
    let sq : get_or (issued operations choices) q [] ≡ issued_rows operations choices q = get_or-issued operations choices q hq in
    keeps p q i j d hp hq (subst (λ rows. i < length rows) sp n) (subst (λ rows. j < length rows) sq o)
    (ap (λ rows. rows_meet ii (get_or rows i d) (slice_index times p) (get_or (issued_rows operations choices q) j d) (slice_index times q)) (sym sp)
    ∙ ap (λ rows. rows_meet ii (get_or (get_or (issued operations choices) p []) i d) (slice_index times p) (get_or rows j d) (slice_index times q)) (sym sq)
    ∙ meet)

-- the operations need at most the rows by which they are issued
rows-le-issued : (set : List ℕ) (operations : List (List (List Row))) (choices : List ℕ)
    → ((p : ℕ) → p < length operations → slice_index choices p < length (get_or operations p []))
    → set_rows set operations ≤ rows_in set (flat_map (λ rows. rows) (issued operations choices))
rows-le-issued set [] choices there = omega arith
rows-le-issued set (alternatives ∷ operations) choices there =
    let rows : List Row = get_or alternatives (slice_index choices 0) [] in
    let others : List Row = flat_map (λ rows. rows) (issued operations (drop 1 choices)) in
    let rest : set_rows set operations ≤ rows_in set others
    = rows-le-issued set operations (drop 1 choices)
    (λ p l. subst (λ k. k < length (get_or operations p [])) (sym (after_one choices p)) (there (suc p) (omega arith))) in
    let here : least_rows set alternatives ≤ rows_in set rows = least_rows-le set alternatives (slice_index choices 0) (there 0 (omega arith)) in
    let a : set_rows set (alternatives ∷ operations) ≡ least_rows set alternatives + set_rows set operations = sum_by-cons (least_rows set) alternatives operations in
    let b : rows_in set (rows ++ others) ≡ rows_in set rows + rows_in set others = sum_by-append (λ (r : Row). cond (is_in set r.unit) 1 0) rows others in
    omega arith

-- a row of a unit of the set is one of the rows of that unit
abbrev one_if : Bool → ℕ
one_if b = cond b 1 0

one_if-or : (a b : Bool) → one_if (a || b) ≤ one_if a + one_if b
one_if-or true b = omega arith
one_if-or false b = omega arith

eqb-swap : (a b : ℕ) → eqb a b ≡ eqb b a
eqb-swap a b = elim (cases_eq a b) [
  | inl e ↦ eq-eqb a b e ∙ sym (eq-eqb b a (sym e))
  | inr e ↦ ne_eqb a b e ∙ sym (ne_eqb b a (λ s. e (sym s)))
]

rows_in-cons : (unit : ℕ) (set : List ℕ) (rows : List Row) → rows_in (unit ∷ set) rows ≤ use_of rows unit + rows_in set rows
rows_in-cons unit set [] = omega arith
rows_in-cons unit set (r ∷ rows) =
    let rest : rows_in (unit ∷ set) rows ≤ use_of rows unit + rows_in set rows = rows_in-cons unit set rows in
    let a : rows_in (unit ∷ set) (r ∷ rows) ≡ one_if (is_in (unit ∷ set) r.unit) + rows_in (unit ∷ set) rows = sum_by-cons (λ (s : Row). one_if (is_in (unit ∷ set) s.unit)) r rows in
    let b : use_of (r ∷ rows) unit ≡ one_if (eqb r.unit unit) + use_of rows unit = sum_by-cons (λ (s : Row). one_if (eqb s.unit unit)) r rows in
    let c : rows_in set (r ∷ rows) ≡ one_if (is_in set r.unit) + rows_in set rows = sum_by-cons (λ (s : Row). one_if (is_in set s.unit)) r rows in
    let d : one_if (eqb unit r.unit || is_in set r.unit) ≤ one_if (eqb unit r.unit) + one_if (is_in set r.unit) = one_if-or (eqb unit r.unit) (is_in set r.unit) in
    let e : one_if (eqb unit r.unit) ≡ one_if (eqb r.unit unit) = ap one_if (eqb-swap unit r.unit) in
    omega arith

rows_in-none : (rows : List Row) → rows_in [] rows ≡ 0
rows_in-none [] = refl
rows_in-none (r ∷ rows) =
    let rest : rows_in [] rows ≡ 0 = rows_in-none rows in
    let a : rows_in [] (r ∷ rows) ≡ 0 + rows_in [] rows = sum_by-cons (λ (s : Row). one_if (is_in [] s.unit)) r rows in
    omega arith

rows_in-le : (rows : List Row) (ii : ℕ) → ((unit : ℕ) → use_of rows unit ≤ ii) → (set : List ℕ) → rows_in set rows ≤ length set * ii
rows_in-le rows ii few [] = let e : rows_in [] rows ≡ 0 = rows_in-none rows in omega arith
rows_in-le rows ii few (unit ∷ set) =
    let rest : rows_in set rows ≤ length set * ii = rows_in-le rows ii few set in
    let here : use_of rows unit ≤ ii = few unit in
    let a : rows_in (unit ∷ set) rows ≤ use_of rows unit + rows_in set rows = rows_in-cons unit set rows in
    let b : suc (length set) * ii ≡ length set * ii + ii = grind arith in
    omega arith

pub rows-le-slots : (set : List ℕ) (operations : List (List (List Row))) (edges : List EdgeData) (ii : ℕ) (times choices : List ℕ) → 0 < ii
    → IsLawfulSchedule ii operations edges times choices → set_rows set operations ≤ length set * ii
rows-le-slots set operations edges ii times choices some lawful =
    let rows : List Row = flat_map (λ rows. rows) (issued operations choices) in
    let a : set_rows set operations ≤ rows_in set rows = rows-le-issued set operations choices lawful.plan.there in
    let b : rows_in set rows ≤ length set * ii
    = rows_in-le rows ii (λ unit. use-le-interval ii unit (issued operations choices) times some (Apart-issued ii operations times choices lawful.keeps_units)) set in
    omega arith
