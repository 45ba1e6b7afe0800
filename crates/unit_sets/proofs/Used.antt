-- The units of the fullest set are used, and it has some.
use Rattle.std.proofs.Common.{◌≡◌, ℕ, zero, suc, ◌+◌, ◌^◌, ◌<◌, ◌⊎◌, inl, inr, max, true, List, [], ◌∷◌, ◌++◌, length, get_or, map, sym, ap, ◌∙◌, subst, arith, bit_or}
use Rattle.std.proofs.lemmas.Bool.{cases_eq, cases_lt, eqb-true, eq-eqb, false≢true}
use Rattle.std.proofs.lemmas.List.{map-append}
use Rattle.std.proofs.lemmas.List.Concat.{flat_map-cons}
use Rattle.std.proofs.lemmas.List.Elements.{Contains-append_left, Contains-append_right, Contains-append_cases}
use Rattle.std.proofs.lemmas.List.FromFn.{get_or-range_with_len, length-range_with_len}
use Rattle.std.proofs.lemmas.Nat.Bits.{bit_at_or, bit_at-lt, bit_at-zero, bit_at-pow_same, bit_at-pow_other}
use Rattle.std.specs.Int.Bits.{or_zero_l}
use Rattle.std.specs.Int.{bit_at}
use Rattle.std.specs.List.{All, Contains, flat_map, fold, range_with_len}
use Rattle.machine_data.specs.Alternative.{AreAlternatives}
use Rattle.machine_data.specs.declared.alternative.Row.{Row}
use Rattle.unit_sets.specs.declared.fullest.UnitSet.{UnitSet}
use Rattle.unit_sets.specs.Sets.{is_in}
use Rattle.unit_sets.specs.Fullest.{IsFullest, IsReached, IsUsed, all_rows, first_sets, row_at, sets_of, units_in, units_of, with_row}
use Rattle.unit_sets.proofs.Listed.{is_in-units, is_in-units_above}

-- the units of rows
abbrev takes : List Row → ℕ → Type 0
takes rows unit = Contains (map (λ (r : Row). r.unit) rows) unit

-- a set of units with this property, that is not empty
pub record IsSome (used : ℕ → Type 0) (set : ℕ) : Type 0 where
  pub unit : ℕ
  pub there : bit_at set unit ≡ 1
  pub each : (other : ℕ) → bit_at set other ≡ 1 → used other

-- ---- bits
or-left : (a b u : ℕ) → bit_at a u ≡ 1 → bit_at (bit_or a b) u ≡ 1
or-left a b u h =
    let e : bit_at (bit_or a b) u ≡ max (bit_at a u) (bit_at b u) = bit_at_or a b u in
    let l : bit_at b u < 2 = bit_at-lt b u in
    e ∙ (let m : max (bit_at a u) (bit_at b u) ≡ 1 = omega arith in m)

or-right : (a b u : ℕ) → bit_at b u ≡ 1 → bit_at (bit_or a b) u ≡ 1
or-right a b u h =
    let e : bit_at (bit_or a b) u ≡ max (bit_at a u) (bit_at b u) = bit_at_or a b u in
    let l : bit_at a u < 2 = bit_at-lt a u in
    e ∙ (let m : max (bit_at a u) (bit_at b u) ≡ 1 = omega arith in m)

or-cases : (a b u : ℕ) → bit_at (bit_or a b) u ≡ 1 → (bit_at a u ≡ 1) ⊎ (bit_at b u ≡ 1)
or-cases a b u h = elim (cases_eq (bit_at a u) 1) [
  | inl e ↦ inl e
  | inr ne ↦
      (let l : bit_at a u < 2 = bit_at-lt a u in
      let m : max (bit_at a u) (bit_at b u) ≡ 1 = sym (bit_at_or a b u) ∙ h in
      inr (omega arith))
]

pow-bit : (k u : ℕ) → bit_at (2 ^ k) u ≡ 1 → k ≡ u
pow-bit k u h = elim (cases_eq u k) [
  | inl e ↦ sym e
  | inr ne ↦ (let z : bit_at (2 ^ k) u ≡ 0 = bit_at-pow_other k u ne in absurd (omega arith))
]

-- ---- the units of rows
more : (x u : ℕ) (xs : List ℕ) → Contains xs u → Contains (x ∷ xs) u
more x u xs h = (suc h.0, (let l : h.0 < length xs = h.1 in omega arith), h.2)

fold-keeps : (rows : List Row) (set u : ℕ) → bit_at set u ≡ 1 → bit_at (fold with_row set rows) u ≡ 1
fold-keeps [] set u h = h
fold-keeps (r ∷ rows) set u h = fold-keeps rows (with_row set r) u (or-left set (2 ^ r.unit) u h)

fold-cases : (rows : List Row) (set u : ℕ) → bit_at (fold with_row set rows) u ≡ 1 → (bit_at set u ≡ 1) ⊎ takes rows u
fold-cases [] set u h = inl h
fold-cases (r ∷ rows) set u h = elim (fold-cases rows (with_row set r) u h) [
  | inl b ↦ elim (or-cases set (2 ^ r.unit) u b) [
    | inl old ↦ inl old
    | inr new ↦ inr (zero, omega arith, pow-bit r.unit u new)
  ]
  | inr later ↦ inr (more r.unit u (map (λ (s : Row). s.unit) rows) later)
]

units-some : (used : ℕ → Type 0) (rows : List Row) → 0 < length rows → ((u : ℕ) → takes rows u → used u) → IsSome used (units_of rows)
units-some used [] some sub = absurd (omega arith)
units-some used (r ∷ rows) some sub = record {
  unit = r.unit;
  there = fold-keeps rows (with_row 0 r) r.unit (or-right 0 (2 ^ r.unit) r.unit (bit_at-pow_same r.unit));
  each = λ u h. elim (fold-cases (r ∷ rows) 0 u h) [
    | inl z ↦ (let e : bit_at 0 u ≡ 0 = bit_at-zero u in absurd (omega arith))
    | inr there ↦ sub u there
  ];
}

or-some : (used : ℕ → Type 0) (a b : ℕ) → IsSome used a → IsSome used b → IsSome used (bit_or a b)
or-some used a b h k = record {
  unit = h.unit;
  there = or-left a b h.unit h.there;
  each = λ u e. elim (or-cases a b u e) [ inl l ↦ h.each u l | inr r ↦ k.each u r ];
}

-- ---- rows of alternatives
takes-append : (rows others : List Row) (u : ℕ) → takes (rows ++ others) u → takes rows u ⊎ takes others u
takes-append rows others u h =
    Contains-append_cases (map (λ (r : Row). r.unit) rows) (map (λ (r : Row). r.unit) others) u
    (subst (λ us. Contains us u) (map-append (λ (r : Row). r.unit) rows others) h)

takes-left : (rows others : List Row) (u : ℕ) → takes rows u → takes (rows ++ others) u
takes-left rows others u h =
    subst (λ us. Contains us u) (sym (map-append (λ (r : Row). r.unit) rows others))
    (Contains-append_left (map (λ (r : Row). r.unit) rows) (map (λ (r : Row). r.unit) others) u h)

takes-right : (rows others : List Row) (u : ℕ) → takes others u → takes (rows ++ others) u
takes-right rows others u h =
    subst (λ us. Contains us u) (sym (map-append (λ (r : Row). r.unit) rows others))
    (Contains-append_right (map (λ (r : Row). r.unit) rows) (map (λ (r : Row). r.unit) others) u h)

takes-row_at : (place : ℕ) (rows : List Row) (u : ℕ) → takes (row_at place rows) u → takes rows u
takes-row_at zero [] u h = h
takes-row_at (suc place) [] u h = h
takes-row_at zero (r ∷ rows) (u) h = (
  zero,
  omega arith,
  elim (cases_eq h.0 0) [
    | inl z ↦ subst (λ k. get_or (r.unit ∷ []) k u ≡ u) z h.2
    | inr ne ↦ absurd (let l : h.0 < 1 = h.1 in omega arith)
  ],
)
takes-row_at (suc place) (r ∷ rows) u h = more r.unit u (map (λ (s : Row). s.unit) rows) (takes-row_at place rows u h)

takes-place : (place : ℕ) (alternatives : List (List Row)) (u : ℕ) → takes (flat_map (row_at place) alternatives) u → takes (all_rows alternatives) u
takes-place place [] u h = h
takes-place place (rows ∷ alternatives) u h =
    subst (λ l. takes l u) (sym (flat_map-cons (λ (l : List Row). l) rows alternatives))
    (elim (takes-append (row_at place rows) (flat_map (row_at place) alternatives) u (subst (λ l. takes l u) (flat_map-cons (row_at place) rows alternatives) h)) [
      | inl here ↦ takes-left rows (all_rows alternatives) u (takes-row_at place rows u here)
      | inr later ↦ takes-right rows (all_rows alternatives) u (takes-place place alternatives u later)
    ])

takes-below : (rows : List Row) → All (λ (r : Row). r.unit < 64) rows → (u : ℕ) → takes rows u → u < 64
takes-below [] each u h = absurd (omega (arith, h.1))
takes-below (r ∷ rows) each u (zero, within, is) = let l : r.unit < 64 = each 0 r (omega arith) in let e : r.unit ≡ u = is in omega arith
takes-below (r ∷ rows) each u (suc k, within, is) = takes-below rows (λ i d l. each (suc i) d (omega arith)) u (k, omega arith, is)

all-below : (alternatives : List (List Row)) → All (λ (rows : List Row). All (λ (r : Row). r.unit < 64) rows) alternatives → (u : ℕ) → takes (all_rows alternatives) u → u < 64
all-below [] each u h = absurd (omega (arith, h.1))
all-below (rows ∷ alternatives) each u h =
    elim (takes-append rows (all_rows alternatives) u (subst (λ l. takes l u) (flat_map-cons (λ (l : List Row). l) rows alternatives) h)) [
      | inl here ↦ takes-below rows (each 0 rows (omega arith)) u here
      | inr later ↦ all-below alternatives (λ i d l. each (suc i) d (omega arith)) u later
    ]

operations-below : (operations : List (List (List Row))) → All AreAlternatives operations → (u : ℕ) → IsUsed operations u → u < 64
operations-below [] each u h = absurd (omega (arith, h.1))
operations-below (alternatives ∷ operations) each u h =
    elim (takes-append (all_rows alternatives) (flat_map all_rows operations) u (subst (λ l. takes l u) (flat_map-cons all_rows alternatives operations) h)) [
      | inl here ↦ all-below alternatives (λ i d l. ((each 0 alternatives (omega arith)).each i d l).units) u here
      | inr later ↦ operations-below operations (λ i d l. each (suc i) d (omega arith)) u later
    ]

some-left : (rows others : List Row) → 0 < length rows → 0 < length (rows ++ others)
some-left [] others h = absurd (omega arith)
some-left (r ∷ rows) others h = omega arith

row_at-some : (place : ℕ) (rows : List Row) → place < length rows → 0 < length (row_at place rows)
row_at-some place [] l = absurd (omega arith)
row_at-some zero (r ∷ rows) l = omega arith
row_at-some (suc place) (r ∷ rows) l = row_at-some place rows (omega arith)

place-some : (place : ℕ) (alternatives : List (List Row)) → 0 < length alternatives → place < length (get_or alternatives 0 []) → 0 < length (flat_map (row_at place) alternatives)
place-some place [] some l = absurd (omega arith)
place-some place (rows ∷ alternatives) some l =
    subst (λ (rs : List Row). 0 < length rs) (sym (flat_map-cons (row_at place) rows alternatives)) (some-left (row_at place rows) (flat_map (row_at place) alternatives) (row_at-some place rows l))

all-some : (alternatives : List (List Row)) → AreAlternatives alternatives → 0 < length (all_rows alternatives)
all-some [] are = absurd (omega (arith, are.some))
all-some (rows ∷ alternatives) are =
    subst (λ (rs : List Row). 0 < length rs) (sym (flat_map-cons (λ (l : List Row). l) rows alternatives)) (some-left rows (all_rows alternatives) (are.each 0 rows (omega arith)).some)

operations-some : (operations : List (List (List Row))) → All AreAlternatives operations → 0 < length operations → 0 < length (flat_map all_rows operations)
operations-some [] each some = absurd (omega arith)
operations-some (alternatives ∷ operations) each some =
    subst (λ (rs : List Row). 0 < length rs) (sym (flat_map-cons all_rows alternatives operations))
    (some-left (all_rows alternatives) (flat_map all_rows operations) (all-some alternatives (each 0 alternatives (omega arith))))

-- ---- the first sets
one-only : (x y : ℕ) → Contains (x ∷ []) y → x ≡ y
one-only x y (zero, within, is) = is
one-only x y (suc k, within, is) = absurd (omega arith)

mapped : (f : ℕ → ℕ) (xs : List ℕ) (y : ℕ) → Contains (map f xs) y → (k : ℕ) × (k < length xs) × (f (get_or xs k 0) ≡ y)
mapped f [] y h = absurd (omega (arith, h.1))
mapped f (x ∷ xs) y (zero, within, is) = (zero, omega arith, is)
mapped f (x ∷ xs) y (suc k, within, is) = let rest = mapped f xs y (k, omega arith, is) in (suc rest.0, (let l : rest.0 < length xs = rest.1 in omega arith), rest.2)

operation-some : (used : ℕ → Type 0) (alternatives : List (List Row)) → AreAlternatives alternatives → ((u : ℕ) → takes (all_rows alternatives) u → used u)
    → (set : ℕ) → Contains (sets_of alternatives) set → IsSome used set
operation-some used alternatives are sub set h =
    let f = λ (place : ℕ). units_of (flat_map (row_at place) alternatives) in
    let places : List ℕ = range_with_len 0 (length (get_or alternatives 0 [])) in
    elim (Contains-append_cases (map f places) (units_of (all_rows alternatives) ∷ []) set h) [
      | inl placed ↦
          (let at = mapped f places set placed in
          let place : ℕ = get_or places at.0 0 in
          let below : at.0 < length (get_or alternatives 0 []) = omega (arith, at.1, length-range_with_len 0 (length (get_or alternatives 0 []))) in
          let e : place ≡ 0 + at.0 = get_or-range_with_len 0 (length (get_or alternatives 0 [])) at.0 0 below in
          subst (IsSome used) at.2
          (units-some used (flat_map (row_at place) alternatives) (place-some place alternatives are.some (omega arith)) (λ u t. sub u (takes-place place alternatives u t))))
      | inr whole ↦ subst (IsSome used) (one-only (units_of (all_rows alternatives)) set whole) (units-some used (all_rows alternatives) (all-some alternatives are) sub)
    ]

operations-sets : (used : ℕ → Type 0) (operations : List (List (List Row))) → All AreAlternatives operations → ((u : ℕ) → IsUsed operations u → used u)
    → (set : ℕ) → Contains (flat_map sets_of operations) set → IsSome used set
operations-sets used [] each sub set h = absurd (omega (arith, h.1))
operations-sets used (alternatives ∷ operations) each sub set h =
    let here : (u : ℕ) → takes (all_rows alternatives) u → used u
    = λ u t. sub u (subst (λ l. takes l u) (sym (flat_map-cons all_rows alternatives operations)) (takes-left (all_rows alternatives) (flat_map all_rows operations) u t)) in
    let later : (u : ℕ) → IsUsed operations u → used u
    = λ u t. sub u (subst (λ l. takes l u) (sym (flat_map-cons all_rows alternatives operations)) (takes-right (all_rows alternatives) (flat_map all_rows operations) u t)) in
    elim (Contains-append_cases (sets_of alternatives) (flat_map sets_of operations) set (subst (λ l. Contains l set) (flat_map-cons sets_of alternatives operations) h)) [
      | inl one ↦ operation-some used alternatives (each 0 alternatives (omega arith)) here set one
      | inr rest ↦ operations-sets used operations (λ i d l. each (suc i) d (omega arith)) later set rest
    ]

first-some : (operations : List (List (List Row))) → All AreAlternatives operations → 0 < length operations → (set : ℕ) → Contains (first_sets operations) set → IsSome (IsUsed operations) set
first-some operations each some set h =
    elim (Contains-append_cases (flat_map sets_of operations) (units_of (flat_map all_rows operations) ∷ []) set h) [
      | inl one ↦ operations-sets (IsUsed operations) operations each (λ u t. t) set one
      | inr all ↦ subst (IsSome (IsUsed operations)) (one-only (units_of (flat_map all_rows operations)) set all)
          (units-some (IsUsed operations) (flat_map all_rows operations) (operations-some operations each some) (λ u t. t))
    ]

reached-some : (rounds : ℕ) (operations : List (List (List Row))) (set : ℕ) → All AreAlternatives operations → 0 < length operations → IsReached (suc rounds) operations set
    → IsSome (IsUsed operations) set
reached-some zero operations set each some h =
    let added : IsSome (IsUsed operations) h.2.added = first-some operations each some h.2.added h.2.is_first in
    let e : set ≡ h.2.added = h.2.is_union ∙ ap (λ b. bit_or b h.2.added) h.1 ∙ or_zero_l h.2.added in
    subst (IsSome (IsUsed operations)) (sym e) added
reached-some (suc rounds) operations set each some h =
    subst (IsSome (IsUsed operations)) (sym h.2.is_union)
    (or-some (IsUsed operations) h.0 h.2.added (reached-some rounds operations h.0 each some h.1) (first-some operations each some h.2.added h.2.is_first))

-- a list that has a unit is not empty
some_in : (set : List ℕ) (unit : ℕ) → is_in set unit ≡ true → 0 < length set
some_in [] unit h = cc
some_in (v ∷ set) unit h = omega arith

pub fullest-used : (operations : List (List (List Row))) (set : UnitSet) → All AreAlternatives operations → 0 < length operations → IsFullest operations set
    → (0 < length (units_in set.units)) × ((unit : ℕ) → is_in (units_in set.units) unit ≡ true → IsUsed operations unit)
fullest-used operations set each some h =
    let is : IsSome (IsUsed operations) set.units = reached-some 3 operations set.units each some h.reached in
    let below : is.unit < 64 = operations-below operations each is.unit (is.each is.unit is.there) in (
      some_in (units_in set.units) is.unit (is_in-units set.units is.unit below ∙ eq-eqb (bit_at set.units is.unit) 1 is.there),
      λ unit t. elim (cases_lt unit 64) [
        | inl low ↦ is.each unit (eqb-true (bit_at set.units unit) 1 (sym (is_in-units set.units unit low) ∙ t))
        | inr high ↦ absurd (false≢true (sym (is_in-units_above set.units unit (omega arith)) ∙ t))
      ],
    )
