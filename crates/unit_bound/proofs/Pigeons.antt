-- Rows of one unit that take different residues are at most as many as there are residues.
use Rattle.std.proofs.Common.{◌≡◌, ◌≢◌, ℕ, suc, ◌+◌, ◌<◌, ◌≤◌, Bool, true, false, cond, List, [], ◌∷◌, ◌++◌, length, get_or, drop, refl, sym, ap, ◌∙◌, subst, inl, inr, arith, eqb}
use Rattle.std.proofs.lemmas.List.{get_or_default}
use Rattle.std.proofs.lemmas.List.Sums.{sum_by-cons, sum_by-append}
use Rattle.std.proofs.lemmas.Bool.{eqb-true, eq-eqb, ne_eqb, or_cases, and_from, cond_both}
use Rattle.std.proofs.lemmas.Map.Keys.{IsDistinct-cons}
use Rattle.std.proofs.lemmas.Map.Steps.{length-le_from_distinct_below}
use Rattle.std.proofs.Math.Nat.{mod-lt}
use Rattle.std.specs.List.{slice_index, list_any, flat_map, IsDistinct, AllByRecursion}
use Rattle.machine_data.specs.declared.alternative.Row.{Row}
use Rattle.machine_data.specs.Alternative.{residue_of, rows_meet}
use Rattle.unit_bound.specs.Units.{use_of}

-- the residues of the rows of a unit, of an operation issued at a time, and after them others
abbrev residues : ℕ → ℕ → ℕ → List Row → List ℕ → List ℕ
residues ii unit time [] others = others
residues ii unit time (r ∷ rows) others = cond (eqb r.unit unit) (residue_of ii r time ∷ residues ii unit time rows others) (residues ii unit time rows others)

-- the same of operations, each issued at its time
abbrev all_residues : ℕ → ℕ → List (List Row) → List ℕ → List ℕ
all_residues ii unit [] times = []
all_residues ii unit (rows ∷ rest) times = residues ii unit (slice_index times 0) rows (all_residues ii unit rest (drop 1 times))

-- no two rows of these operations take one slot
abbrev pub Apart : ℕ → List (List Row) → List ℕ → Type 0
Apart ii operations times = (p q i j : ℕ) (d : Row) → p < length operations → q < length operations
    → i < length (get_or operations p []) → j < length (get_or operations q [])
    → rows_meet ii (get_or (get_or operations p []) i d) (slice_index times p) (get_or (get_or operations q []) j d) (slice_index times q) ≡ true
    → (p ≡ q) × (i ≡ j)

abbrev Differs : ℕ → List ℕ → Type 0
Differs x xs = AllByRecursion (λ y. eqb x y ≡ false) xs

differs_from_rows : (ii unit time x : ℕ) (rows : List Row) (others : List ℕ)
    → ((j : ℕ) (d : Row) → j < length rows → (get_or rows j d).unit ≡ unit → residue_of ii (get_or rows j d) time ≢ x)
    → Differs x others → Differs x (residues ii unit time rows others)
differs_from_rows ii unit time x [] others apart h = h
differs_from_rows ii unit time x (r ∷ rows) others apart h =
    let rest : Differs x (residues ii unit time rows others)
    = differs_from_rows ii unit time x rows others (λ j d l. apart (suc j) d (omega arith)) h in
    cond_both (eqb r.unit unit) (residue_of ii r time ∷ residues ii unit time rows others) (residues ii unit time rows others) (Differs x)
    (λ same. (ne_eqb x (residue_of ii r time) (λ e. apart 0 r (omega arith) (eqb-true r.unit unit same) (sym e)), rest))
    (λ other. rest)

time_after : (times : List ℕ) (q : ℕ) → slice_index (drop 1 times) q ≡ slice_index times (suc q)
time_after [] q = refl
time_after (t ∷ times) q = refl

differs_from_all : (ii unit x : ℕ) (operations : List (List Row)) (times : List ℕ)
    → ((q j : ℕ) (d : Row) → q < length operations → j < length (get_or operations q []) → (get_or (get_or operations q []) j d).unit ≡ unit
    → residue_of ii (get_or (get_or operations q []) j d) (slice_index times q) ≢ x)
    → Differs x (all_residues ii unit operations times)
differs_from_all ii unit x [] times apart = tt
differs_from_all ii unit x (rows ∷ rest) times apart =
    differs_from_rows ii unit (slice_index times 0) x rows (all_residues ii unit rest (drop 1 times))
    (λ j d. apart 0 j d (omega arith))
    (differs_from_all ii unit x rest (drop 1 times)
    (λ q j d l m u e. apart (suc q) j d (omega arith) m u
    (ap (residue_of ii (get_or (get_or rest q []) j d)) (sym (time_after times q)) ∙ e)))

distinct_rows : (ii unit time : ℕ) (rows : List Row) (others : List ℕ) → IsDistinct eqb others
    → ((i j : ℕ) (d : Row) → i < length rows → j < length rows → (get_or rows i d).unit ≡ unit → (get_or rows j d).unit ≡ unit
    → residue_of ii (get_or rows i d) time ≡ residue_of ii (get_or rows j d) time → i ≡ j)
    → ((i : ℕ) (d : Row) → i < length rows → (get_or rows i d).unit ≡ unit → Differs (residue_of ii (get_or rows i d) time) others)
    → IsDistinct eqb (residues ii unit time rows others)
distinct_rows ii unit time [] others h within apart = h
distinct_rows ii unit time (r ∷ rows) others h within apart =
    let rest : IsDistinct eqb (residues ii unit time rows others)
    = distinct_rows ii unit time rows others h
    (λ i j d l m u v e. let s : suc i ≡ suc j = within (suc i) (suc j) d (omega arith) (omega arith) u v e in omega arith)
    (λ i d l. apart (suc i) d (omega arith)) in
    cond_both (eqb r.unit unit) (residue_of ii r time ∷ residues ii unit time rows others) (residues ii unit time rows others) (IsDistinct eqb)
    (λ same. IsDistinct-cons eqb (residue_of ii r time) (residues ii unit time rows others)
    (differs_from_rows ii unit time (residue_of ii r time) rows others
    (λ j d l u e. let s : 0 ≡ suc j = within 0 (suc j) d (omega arith) (omega arith) (eqb-true r.unit unit same) u (sym e) in absurd (omega arith))
    (apart 0 r (omega arith) (eqb-true r.unit unit same)))
    rest)
    (λ other. rest)

meet_from : (ii : ℕ) (a b : Row) (t s : ℕ) → a.unit ≡ b.unit → residue_of ii a t ≡ residue_of ii b s → rows_meet ii a t b s ≡ true
meet_from ii a b t s u e =
    and_from (eqb a.unit b.unit) (eqb (residue_of ii a t) (residue_of ii b s)) (eq-eqb a.unit b.unit u) (eq-eqb (residue_of ii a t) (residue_of ii b s) e)

distinct_all : (ii unit : ℕ) (operations : List (List Row)) (times : List ℕ) → Apart ii operations times → IsDistinct eqb (all_residues ii unit operations times)
unfolding IsDistinct
distinct_all ii unit [] times apart = tt
distinct_all ii unit (rows ∷ rest) times apart =
    distinct_rows ii unit (slice_index times 0) rows (all_residues ii unit rest (drop 1 times))
    (distinct_all ii unit rest (drop 1 times)
    (λ p q i j d l m n o meet.
    let a : rows_meet ii (get_or (get_or rest p []) i d) (slice_index times (suc p)) (get_or (get_or rest q []) j d) (slice_index times (suc q)) ≡ true
    = ap (λ t. rows_meet ii (get_or (get_or rest p []) i d) t (get_or (get_or rest q []) j d) (slice_index times (suc q))) (sym (time_after times p))
    ∙ ap (λ t. rows_meet ii (get_or (get_or rest p []) i d) (slice_index (drop 1 times) p) (get_or (get_or rest q []) j d) t) (sym (time_after times q))
    ∙ meet in
    let s = apart (suc p) (suc q) i j d (omega arith) (omega arith) n o a in
    let e : suc p ≡ suc q = s.0 in
    (omega arith, s.1)))
    (λ i j d l m u v e. (apart 0 0 i j d (omega arith) (omega arith) l m (meet_from ii (get_or rows i d) (get_or rows j d) (slice_index times 0) (slice_index times 0) (u ∙ sym v) e)).1)
    (λ i d l u. differs_from_all ii unit (residue_of ii (get_or rows i d) (slice_index times 0)) rest (drop 1 times)
    (λ q j c m n v e.
    let same : get_or rows i c ≡ get_or rows i d = get_or_default rows i c d l in
    let meet : rows_meet ii (get_or rows i c) (slice_index times 0) (get_or (get_or rest q []) j c) (slice_index times (suc q)) ≡ true
    = meet_from ii (get_or rows i c) (get_or (get_or rest q []) j c) (slice_index times 0) (slice_index times (suc q))
    (ap (λ (r : Row). r.unit) same ∙ u ∙ sym v)
    (ap (λ r. residue_of ii r (slice_index times 0)) same ∙ sym e ∙ ap (residue_of ii (get_or (get_or rest q []) j c)) (time_after times q)) in
    let s : 0 ≡ suc q = (apart 0 (suc q) i j c (omega arith) (omega arith) l n meet).0 in
    absurd (omega arith)))

below_rows : (ii unit time : ℕ) → 0 < ii → (rows : List Row) (others : List ℕ) → ((x : ℕ) → list_any (eqb x) others ≡ true → x < ii)
    → (x : ℕ) → list_any (eqb x) (residues ii unit time rows others) ≡ true → x < ii
below_rows ii unit time some [] others h = h
below_rows ii unit time some (r ∷ rows) others h = λ x.
    cond_both (eqb r.unit unit) (residue_of ii r time ∷ residues ii unit time rows others) (residues ii unit time rows others) (λ l. list_any (eqb x) l ≡ true → x < ii)
    (λ same any. elim (or_cases (eqb x (residue_of ii r time)) (list_any (eqb x) (residues ii unit time rows others)) any) [
      | inl here ↦ subst (λ y. y < ii) (sym (eqb-true x (residue_of ii r time) here)) (mod-lt (time + r.offset) some)
      | inr there ↦ below_rows ii unit time some rows others h x there
    ])
    (λ other. below_rows ii unit time some rows others h x)

below_all : (ii unit : ℕ) → 0 < ii → (operations : List (List Row)) (times : List ℕ) → (x : ℕ) → list_any (eqb x) (all_residues ii unit operations times) ≡ true → x < ii
below_all ii unit some [] times x any = cc
below_all ii unit some (rows ∷ rest) times x any =
    below_rows ii unit (slice_index times 0) some rows (all_residues ii unit rest (drop 1 times)) (below_all ii unit some rest (drop 1 times)) x any

abbrev one_if : Bool → ℕ
one_if b = cond b 1 0

length_rows : (ii unit time : ℕ) (rows : List Row) (others : List ℕ) → length (residues ii unit time rows others) ≡ use_of rows unit + length others
length_rows ii unit time [] others = omega arith
length_rows ii unit time (r ∷ rows) others =
    let rest : length (residues ii unit time rows others) ≡ use_of rows unit + length others = length_rows ii unit time rows others in
    let a : use_of (r ∷ rows) unit ≡ one_if (eqb r.unit unit) + use_of rows unit = sum_by-cons (λ (s : Row). one_if (eqb s.unit unit)) r rows in
    cond_both (eqb r.unit unit) (residue_of ii r time ∷ residues ii unit time rows others) (residues ii unit time rows others)
    (λ l. length l ≡ use_of (r ∷ rows) unit + length others)
    (λ same. let b : one_if (eqb r.unit unit) ≡ 1 = ap one_if same in omega arith)
    (λ other. let b : one_if (eqb r.unit unit) ≡ 0 = ap one_if other in omega arith)

length_all : (ii unit : ℕ) (operations : List (List Row)) (times : List ℕ) → length (all_residues ii unit operations times) ≡ use_of (flat_map (λ rows. rows) operations) unit
length_all ii unit [] times = refl
length_all ii unit (rows ∷ rest) times =
    let a : length (all_residues ii unit (rows ∷ rest) times) ≡ use_of rows unit + length (all_residues ii unit rest (drop 1 times))
    = length_rows ii unit (slice_index times 0) rows (all_residues ii unit rest (drop 1 times)) in
    let b : length (all_residues ii unit rest (drop 1 times)) ≡ use_of (flat_map (λ rows. rows) rest) unit = length_all ii unit rest (drop 1 times) in
    let c : use_of (rows ++ flat_map (λ rows. rows) rest) unit ≡ use_of rows unit + use_of (flat_map (λ rows. rows) rest) unit
    = sum_by-append (λ (s : Row). one_if (eqb s.unit unit)) rows (flat_map (λ rows. rows) rest) in
    omega arith

-- a unit has one residue at least for each of its rows
pub use-le-interval : (ii unit : ℕ) (operations : List (List Row)) (times : List ℕ) → 0 < ii → Apart ii operations times
    → use_of (flat_map (λ rows. rows) operations) unit ≤ ii
use-le-interval ii unit operations times some apart =
    let a : length (all_residues ii unit operations times) ≤ ii
    = length-le_from_distinct_below (all_residues ii unit operations times) ii (distinct_all ii unit operations times apart) (below_all ii unit some operations times) in
    let b : length (all_residues ii unit operations times) ≡ use_of (flat_map (λ rows. rows) operations) unit = length_all ii unit operations times in
    omega arith
