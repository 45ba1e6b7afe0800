-- The first operations of a list are placed in a table, and a row of the next one takes the slot of a row before it, or none does.
use Rattle.std.proofs.Common.{◌≡◌, ◌≢◌, ℕ, suc, ◌+◌, ◌%◌, ◌<◌, ◌≤◌, true, false, ◌||◌, eqb, List, [], ◌∷◌, length, take, get_or, set, Some, None, refl, sym, ap, ◌∙◌, subst, inl, inr, arith, length-set}
use Rattle.std.specs.List.{slice_index, list_any, slice_get}
use Rattle.std.specs.Option.{option_flatten}
use Rattle.std.proofs.lemmas.Bool.{cases_eq, cases_lt, cases_Bool, both_ways, and_parts, and_from, eqb-true, eq-eqb}
use Rattle.std.proofs.lemmas.List.{get_or-map, get_or_default, get_or-take, length-take-le}
use Rattle.std.proofs.lemmas.List.Folds.{list_any_at}
use Rattle.std.proofs.lemmas.Option.{none-some, same_Some, slice_get-get_or, slice_get_within, get_or_from_slice_get}
use Rattle.std.proofs.Math.Nat.{add-mod-mod}
use Rattle.machine_data.specs.declared.alternative.Row.{Row}
use Rattle.machine_data.specs.Alternative.{residue_of, rows_meet, collides}
use Rattle.edges.specs.Schedules.{KeepsUnits, issued_rows}
use Rattle.mrt.specs.Placements.{OperationAlternatives, Placements, Placement, placement_of, alternatives_of, rows_of, IsFree, IsHolder}
use Rattle.mrt.specs.Taken.{AreApart}
use Rattle.mrt.proofs.searching.Scheduling.{AreApart-claimed, fits_from_no_holders}
use Rattle.mrt.proofs.placements.Lists.{list_any_place, slice_get-set_same, slice_get-set_other}
use Rattle.schedules.specs.Breaches.{times_in, choices_in, TakesSlot}
use Rattle.schedules.specs.declared.breach.Breach.{Breach}
use Rattle.schedules.specs.declared.breach.Breach.TheVariants.{Slot}
use Rattle.schedules.specs.inner.Listed.{IsTaken, IsFirstTaken}
use Rattle.schedules.proofs.lawfulness.Slots.{KeepsUnits-apart, meet_sym, meet_at_zero, rows_apart}

abbrev pub no_row : Row
no_row = record { unit = 0; offset = 0 }

-- ---- rows of one alternative
-- rows of one alternative that meet at once meet at each time
pub meet_at_all : (ii t : ℕ) (row other : Row) → rows_meet ii row 0 other 0 ≡ true → rows_meet ii row t other t ≡ true
meet_at_all ii t row other meets =
    let p = and_parts (eqb row.unit other.unit) (eqb (residue_of ii row 0) (residue_of ii other 0)) meets in
    let same : (0 + row.offset) % ii ≡ (0 + other.offset) % ii = eqb-true (residue_of ii row 0) (residue_of ii other 0) p.1 in
    let za : 0 + row.offset ≡ row.offset = omega arith in
    let zb : 0 + other.offset ≡ other.offset = omega arith in
    let e : row.offset % ii ≡ other.offset % ii = ap (λ n. n % ii) (sym za) ∙ same ∙ ap (λ n. n % ii) zb in
    let shifted : (t + row.offset) % ii ≡ (t + other.offset) % ii = sym (add-mod-mod t row.offset ii) ∙ ap (λ n. (t + n) % ii) e ∙ add-mod-mod t other.offset ii in
    and_from (eqb row.unit other.unit) (eqb (residue_of ii row t) (residue_of ii other t)) p.0 (eq-eqb (residue_of ii row t) (residue_of ii other t) shifted)

-- two different rows of an alternative that collides meet
colliding_pair : (ii : ℕ) (rows : List Row) (d : Row) → collides ii rows ≡ true
    → (i : ℕ) × (j : ℕ) × (i < length rows) × (j < length rows) × (i ≢ j) × (rows_meet ii (get_or rows i d) 0 (get_or rows j d) 0 ≡ true)
colliding_pair ii [] d c = absurd (both_ways false refl c)
colliding_pair ii (row ∷ rows) d c = elim (cases_Bool (list_any (λ s. rows_meet ii row 0 s 0) rows)) [
  | inl here ↦
      let k = list_any_place (λ s. rows_meet ii row 0 s 0) rows here in
      (0, suc k.0, omega arith, (let h : k.0 < length rows = k.1 in omega arith), (λ e. omega arith), k.2 d)
  | inr later ↦
      let rest : collides ii rows ≡ true = sym (ap (λ b. b || collides ii rows) later) ∙ c in
      let k = colliding_pair ii rows d rest in
      (suc k.0, suc k.1, (let h : k.0 < length rows = k.2 in omega arith), (let h : k.1 < length rows = k.3 in omega arith), (λ e. k.4 (omega arith)), k.5)
]

-- a row that meets one before it
meets_before : (ii : ℕ) (rows : List Row) (k i : ℕ) (row d : Row) → k < i → i < length rows → rows_meet ii row 0 (get_or rows k d) 0 ≡ true
    → list_any (λ s. rows_meet ii row 0 s 0) (take i rows) ≡ true
meets_before ii rows k i row d less there meets =
    list_any_at (λ s. rows_meet ii row 0 s 0) (take i rows) k d (omega (arith, length-take-le i rows (omega arith)))
    (subst (λ (s : Row). rows_meet ii row 0 s 0 ≡ true) (sym (get_or-take i rows k d less)) meets)

met_before : (ii : ℕ) (rows : List Row) (i : ℕ) (row d : Row) → i < length rows → list_any (λ s. rows_meet ii row 0 s 0) (take i rows) ≡ true
    → (k : ℕ) × (k < i) × (rows_meet ii row 0 (get_or rows k d) 0 ≡ true)
met_before ii rows i row d there any =
    let k = list_any_place (λ s. rows_meet ii row 0 s 0) (take i rows) any in
    let h : k.0 < length (take i rows) = k.1 in
    let less : k.0 < i = omega (arith, length-take-le i rows (omega arith)) in
    (k.0, less, subst (λ (s : Row). rows_meet ii row 0 s 0 ≡ true) (get_or-take i rows k.0 d less) (k.2 d))

-- ---- a row whose slot is taken
module _ (ii : ℕ) (operations : OperationAlternatives) (placed : Placements) (rows own : List Row) (op time i : ℕ) (are : rows ≡ own) (there : i < length rows) where
  -- what a table tells of the holder of a row's slot
  pub taken_by_holder : (holder : ℕ) → ((r : Row) → slice_get own i ≡ Some r → IsHolder ii operations placed r time (Some holder))
      → IsTaken ii operations placed rows op time i holder
  taken_by_holder holder tells =
      let is : slice_get rows i ≡ Some (get_or rows i no_row) = slice_get-get_or rows i no_row there in
      record { row = get_or rows i no_row; is_row = is; how = inl (tells (get_or rows i no_row) (ap (λ l. slice_get l i) (sym are) ∙ is)).0 }

  -- what the rows before it tell; they are read at an interval that is the table's
  module _ (at : ℕ) (is_interval : at ≡ ii) where
    abbrev row : Row
    row = get_or rows i no_row

    read : list_any (λ s. rows_meet at row 0 s 0) (take i rows) ≡ list_any (λ s. rows_meet ii row 0 s 0) (take i rows)
    read = ap (λ n. list_any (λ s. rows_meet n row 0 s 0) (take i rows)) is_interval

    pub taken_by_own : list_any (λ s. rows_meet at row 0 s 0) (take i rows) ≡ true → IsTaken ii operations placed rows op time i op
    taken_by_own any = record { row = row; is_row = slice_get-get_or rows i no_row there; how = inr (refl, sym read ∙ any) }

    pub untaken : ((r : Row) → slice_get own i ≡ Some r → IsHolder ii operations placed r time None)
        → list_any (λ s. rows_meet at row 0 s 0) (take i rows) ≡ false → (earlier : ℕ) → IsTaken ii operations placed rows op time i earlier → ⊥
    untaken tells none earlier taken = elim taken.how [
      | inl held ↦ tells taken.row (ap (λ l. slice_get l i) (sym are) ∙ taken.is_row) earlier held
      | inr met ↦
          let same : taken.row ≡ row = sym (get_or_from_slice_get rows i taken.row no_row taken.is_row) in
          both_ways (list_any (λ s. rows_meet ii row 0 s 0) (take i rows)) (sym read ∙ none)
          (subst (λ (r : Row). list_any (λ s. rows_meet ii r 0 s 0) (take i rows) ≡ true) same met.1)
    ]

  -- how it is told
  pub first_taken : (others : OperationAlternatives) (earlier unit offset at : ℕ) → operations ≡ others → IsTaken ii operations placed rows op time i earlier
      → ((k holder : ℕ) → k < i → IsTaken ii operations placed rows op time k holder → ⊥)
      → unit ≡ (get_or rows i no_row).unit → offset ≡ (get_or rows i no_row).offset → at ≡ ii
      → IsFirstTaken ii others placed own op time (Slot earlier op unit ((time + offset) % at))
  first_taken others earlier unit offset at same taken first is_unit is_offset is_interval =
      let breach : Breach = Slot earlier op unit ((time + offset) % at) in
      let row : get_or rows i no_row ≡ taken.row = get_or_from_slice_get rows i taken.row no_row taken.is_row in
      let u : unit ≡ taken.row.unit = is_unit ∙ ap (λ (r : Row). r.unit) row in
      let o : offset ≡ taken.row.offset = is_offset ∙ ap (λ (r : Row). r.offset) row in
      let residue : (time + offset) % at ≡ residue_of ii taken.row time = ap (λ n. (time + n) % at) o ∙ ap (λ n. (time + taken.row.offset) % n) is_interval in
      let named : breach ≡ Slot earlier op taken.row.unit (residue_of ii taken.row time) = cc in
      let mine : IsFirstTaken ii operations placed rows op time breach = record { i = i; earlier = earlier; taken = taken; first = first; named = named } in
      subst (λ (os : OperationAlternatives). IsFirstTaken ii os placed own op time breach) same
      (subst (λ (l : List Row). IsFirstTaken ii operations placed l op time breach) are mine)

-- the rows of an alternative of an operation, as they are read
pub rows_read : (operations : OperationAlternatives) (op alternative : ℕ) (offered list : List (List Row)) (item rows : List Row)
    → op < length operations → alternative < length (alternatives_of operations op)
    → offered ≡ get_or operations op offered → list ≡ offered → item ≡ get_or list alternative item → rows ≡ item → rows ≡ rows_of operations op alternative
rows_read operations op alternative offered list item rows there below is_offered is_list is_item are =
    let same : list ≡ alternatives_of operations op = is_list ∙ is_offered ∙ get_or_default operations op offered [] there in
    let within : alternative < length list = subst (λ (l : List (List Row)). alternative < length l) (sym same) below in
    are ∙ is_item ∙ get_or_default list alternative item [] within ∙ ap (λ (l : List (List Row)). get_or l alternative []) same

-- an operation of whose rows none is taken can be issued
module _ (ii : ℕ) (operations : OperationAlternatives) (placed : Placements) (op time alternative : ℕ) (there : alternative < length (alternatives_of operations op))
    (none : (k holder : ℕ) → k < length (rows_of operations op alternative) → IsTaken ii operations placed (rows_of operations op alternative) op time k holder → ⊥) where
  abbrev rows : List Row
  rows = rows_of operations op alternative

  meets_none : (k i : ℕ) → k < i → i < length rows → rows_meet ii (get_or rows i no_row) 0 (get_or rows k no_row) 0 ≡ true → ⊥
  meets_none k i less below meets =
      none i op below (taken_by_own ii operations placed rows rows op time i refl below ii refl
      (meets_before ii rows k i (get_or rows i no_row) no_row less below meets))

  pub IsFree-untaken : IsFree ii operations placed op time alternative
  IsFree-untaken = record {
    there = there;
    fits = fits_from_no_holders ii operations placed rows time
        (elim (cases_Bool (collides ii rows)) [
          | inl twice ↦
              let k = colliding_pair ii rows no_row twice in
              let first : ℕ = k.0 in
              let second : ℕ = k.1 in
              elim (cases_lt first second) [
                | inl less ↦ absurd (meets_none first second less k.3 (meet_sym ii (get_or rows first no_row) (get_or rows second no_row) 0 0 k.5))
                | inr past ↦ (let ne : first ≢ second = k.4 in let less : second < first = omega arith in absurd (meets_none second first less k.2 k.5))
              ]
          | inr sound ↦ sound
        ])
        (λ k row is holder held. none k holder (slice_get_within rows k row is) (record { row = row; is_row = is; how = inl held }));
  }

-- the same, of rows and operations that are those of a table
pub free_after : (ii : ℕ) (operations others : OperationAlternatives) (placed : Placements) (rows : List Row) (op time alternative done : ℕ) → operations ≡ others
    → rows ≡ rows_of others op alternative → alternative < length (alternatives_of others op) → length rows ≤ done
    → ((k holder : ℕ) → k < done → IsTaken ii operations placed rows op time k holder → ⊥) → IsFree ii others placed op time alternative
free_after ii operations others placed rows op time alternative done same are there all none =
    IsFree-untaken ii others placed op time alternative there
    (subst (λ (l : List Row). (k holder : ℕ) → k < length l → IsTaken ii others placed l op time k holder → ⊥) are
    (subst (λ (os : OperationAlternatives). (k holder : ℕ) → k < length rows → IsTaken ii os placed rows op time k holder → ⊥) same
    (λ k holder below. none k holder (omega arith))))

-- ---- the first operations of a list
pub time_at : (places : List (ℕ × ℕ)) (op : ℕ) (d : ℕ × ℕ) → op < length places → slice_index (times_in places) op ≡ (get_or places op d).0
time_at places op d there = get_or-map (λ (p : ℕ × ℕ). p.0) places op d 0 there

pub choice_at : (places : List (ℕ × ℕ)) (op : ℕ) (d : ℕ × ℕ) → op < length places → slice_index (choices_in places) op ≡ (get_or places op d).1
choice_at places op d there = get_or-map (λ (p : ℕ × ℕ). p.1) places op d 0 there

-- the first operations of a list are placed, and no others
pub record ArePlaced (ii : ℕ) (operations : OperationAlternatives) (places : List (ℕ × ℕ)) (placed : Placements) (done : ℕ) : Type 0 where
  pub whole : length placed ≡ length operations
  pub each : (op : ℕ) → op < done → placement_of placed op ≡ Some (record { time = slice_index (times_in places) op; alternative = slice_index (choices_in places) op })
  pub others : (op : ℕ) → done ≤ op → placement_of placed op ≡ None
  pub apart : AreApart ii operations placed
  pub sound : (op : ℕ) → op < done → collides ii (issued_rows operations (choices_in places) op) ≡ false

module _ (ii : ℕ) (operations : OperationAlternatives) (places : List (ℕ × ℕ)) (placed : Placements) where
  abbrev times : List ℕ
  times = times_in places

  abbrev choices : List ℕ
  choices = choices_in places

  module _ (op : ℕ) (are : ArePlaced ii operations places placed op) (there : op < length operations) where
    abbrev time : ℕ
    time = slice_index times op

    abbrev choice : ℕ
    choice = slice_index choices op

    abbrev own : List Row
    own = issued_rows operations choices op

    pub ArePlaced-more : IsFree ii operations placed op time choice
        → ArePlaced ii operations places (set placed op (Some (record { time = time; alternative = choice }))) (op + 1)
    ArePlaced-more free =
        let at : Placement = record { time = time; alternative = choice } in
        let within : op < length placed = omega (arith, are.whole) in
        let mine : placement_of (set placed op (Some at)) op ≡ Some at = ap option_flatten (slice_get-set_same placed op (Some at) within) in
        let far : (q : ℕ) → q ≢ op → placement_of (set placed op (Some at)) q ≡ placement_of placed q = λ q ne. ap option_flatten (slice_get-set_other placed op q (Some at) ne) in
        record {
          whole = length-set placed op (Some at) ∙ are.whole;
          each = λ q less. elim (cases_eq q op) [
            | inl same ↦
                subst (λ k. placement_of (set placed op (Some at)) k ≡ Some (record { time = slice_index times k; alternative = slice_index choices k })) (sym same) mine
            | inr ne ↦ far q ne ∙ are.each q (omega arith)
          ];
          others = λ q past. far q (λ e. omega arith) ∙ are.others q (omega arith);
          apart = AreApart-claimed ii operations placed op time choice within (are.others op (omega arith)) free are.apart;
          sound = λ q less. elim (cases_eq q op) [
            | inl same ↦ subst (λ k. collides ii (issued_rows operations choices k) ≡ false) (sym same) free.fits.sound
            | inr ne ↦ are.sound q (omega arith)
          ];
        }

    -- the same, as the item is read and told by a table
    pub more_placed : (at : ℕ) (others : OperationAlternatives) (after : Placements) → at ≡ ii → others ≡ operations → op < length places
        → IsFree at others placed op (get_or places op (0, 0)).0 (get_or places op (0, 0)).1
        → after ≡ set placed op (Some (record { time = (get_or places op (0, 0)).0; alternative = (get_or places op (0, 0)).1 }))
        → ArePlaced ii operations places after (op + 1)
    more_placed at others after is_interval same listed free is =
        let t : slice_index times op ≡ (get_or places op (0, 0)).0 = time_at places op (0, 0) listed in
        let c : slice_index choices op ≡ (get_or places op (0, 0)).1 = choice_at places op (0, 0) listed in
        let own_free : IsFree ii operations placed op time choice
        = subst (λ n. IsFree n operations placed op time choice) is_interval
        (subst (λ (os : OperationAlternatives). IsFree at os placed op time choice) same
        (subst (λ n. IsFree at others placed op n choice) (sym t) (subst (λ n. IsFree at others placed op (get_or places op (0, 0)).0 n) (sym c) free))) in
        subst (λ (p : Placements). ArePlaced ii operations places p (op + 1))
        (ap (λ n. set placed op (Some (record { time = n; alternative = choice }))) t
        ∙ ap (λ n. set placed op (Some (record { time = (get_or places op (0, 0)).0; alternative = n }))) c ∙ sym is)
        (ArePlaced-more own_free)

    -- a row of the next operation that is taken takes the slot of a row of the list
    pub takes_from : (j earlier : ℕ) → (taken : IsTaken ii operations placed own op time j earlier)
        → (i : ℕ) × (takes : TakesSlot ii operations times choices earlier i op j) × (takes.row ≡ taken.row)
    takes_from j earlier taken =
        let row : Row = taken.row in
        let j_there : j < length own = slice_get_within own j row taken.is_row in
        elim taken.how [
          | inl h ↦
              let before : earlier < op = elim (cases_lt earlier op) [
                | inl less ↦ less
                | inr past ↦ absurd (none-some h.at (sym (are.others earlier past) ∙ h.is_placed))
              ] in
              let is : h.at ≡ record { time = slice_index times earlier; alternative = slice_index choices earlier }
              = same_Some h.at (record { time = slice_index times earlier; alternative = slice_index choices earlier }) (sym h.is_placed ∙ are.each earlier before) in
              let rows : List Row = issued_rows operations choices earlier in
              let theirs : rows_of operations earlier h.at.alternative ≡ rows = ap (λ (p : Placement). rows_of operations earlier p.alternative) is in
              let i_there : h.own < length rows = subst (λ (l : List Row). h.own < length l) theirs h.own_there in (
                h.own,
                record {
                  row = row;
                  is_row = taken.is_row;
                  other = get_or rows h.own row;
                  is_other = slice_get-get_or rows h.own row i_there;
                  before = inl before;
                  meet = subst (λ (p : Placement). rows_meet ii row time (get_or (rows_of operations earlier p.alternative) h.own row) p.time ≡ true) is h.same;
                },
                refl,
              )
          | inr h ↦
              let k = met_before ii own j row row j_there h.1 in
              let i : ℕ = k.0 in
              let less : i < j = k.1 in
              let mine : TakesSlot ii operations times choices op i op j = record {
                row = row;
                is_row = taken.is_row;
                other = get_or own i row;
                is_other = slice_get-get_or own i row (omega arith);
                before = inr (refl, less);
                meet = meet_at_all ii time row (get_or own i row) k.2;
              } in
              subst (λ p. (i : ℕ) × (takes : TakesSlot ii operations times choices p i op j) × (takes.row ≡ row)) (sym h.0) (i, mine, refl)
        ]

    -- and the other way round
    pub taken_where : 0 < ii → (p k l : ℕ) → TakesSlot ii operations times choices p k op l → IsTaken ii operations placed own op time l p
    taken_where some p k l takes =
        let row : Row = takes.row in
        let l_there : l < length own = slice_get_within own l row takes.is_row in
        elim takes.before [
          | inl before ↦
              let rows : List Row = issued_rows operations choices p in
              record {
                row = row;
                is_row = takes.is_row;
                how = inl (record {
                  at = record { time = slice_index times p; alternative = slice_index choices p };
                  is_placed = are.each p before;
                  own = k;
                  own_there = slice_get_within rows k takes.other takes.is_other;
                  same = subst (λ (r : Row). rows_meet ii row time r (slice_index times p) ≡ true) (sym (get_or_from_slice_get rows k takes.other row takes.is_other)) takes.meet;
                });
              }
          | inr h ↦
              let is_other : slice_get own k ≡ Some takes.other = subst (λ q. slice_get (issued_rows operations choices q) k ≡ Some takes.other) h.0 takes.is_other in
              let meet : rows_meet ii row time takes.other time ≡ true = subst (λ q. rows_meet ii row time takes.other (slice_index times q) ≡ true) h.0 takes.meet in
              let here : get_or own k row ≡ takes.other = get_or_from_slice_get own k takes.other row is_other in
              record {
                row = row;
                is_row = takes.is_row;
                how = inr (
                  h.0,
                  meets_before ii own k l row row h.1 l_there
                      (subst (λ (r : Row). rows_meet ii row 0 r 0 ≡ true) (sym here) (meet_at_zero ii row takes.other time some meet)),
                );
              }
        ]

    -- no row of an operation before the next one takes the slot of a row before it
    pub none_before : 0 < ii → (p k q l : ℕ) → q < op → TakesSlot ii operations times choices p k q l → ⊥
    none_before some p k q l q_before takes =
        let rows : List Row = issued_rows operations choices q in
        let others : List Row = issued_rows operations choices p in
        let p_before : p < op = elim takes.before [ inl less ↦ omega arith | inr same ↦ omega (arith, same.0) ] in
        let meet : rows_meet ii (get_or rows l no_row) (slice_index times q) (get_or others k no_row) (slice_index times p) ≡ true
        = subst (λ (r : Row). rows_meet ii r (slice_index times q) (get_or others k no_row) (slice_index times p) ≡ true) (sym (get_or_from_slice_get rows l takes.row no_row takes.is_row))
        (subst (λ (r : Row). rows_meet ii takes.row (slice_index times q) r (slice_index times p) ≡ true) (sym (get_or_from_slice_get others k takes.other no_row takes.is_other)) takes.meet) in
        let same = rows_apart ii operations placed times choices op some are.each are.sound are.apart q p l k no_row q_before p_before
        (slice_get_within rows l takes.row takes.is_row) (slice_get_within others k takes.other takes.is_other) meet in
        let one : q ≡ p = same.0 in
        let once : l ≡ k = same.1 in
        elim takes.before [ inl less ↦ omega arith | inr less ↦ omega (arith, less.1) ]

  pub KeepsUnits-all : 0 < ii → ArePlaced ii operations places placed (length operations) → KeepsUnits ii operations times choices
  KeepsUnits-all some are = KeepsUnits-apart ii operations placed times choices some are.each are.sound are.apart
