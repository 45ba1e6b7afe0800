-- What a list of times and alternatives breaks first, case by case; and that it breaks one thing first.
use Rattle.std.proofs.Common.{◌≡◌, ◌⊎◌, ℕ, pos, ◌+◌, ◌*◌, ◌/◌, ◌<◌, ◌≤◌, ◌^◌, ◌+ℤ◌, true, eqb, List, [], length, get_or, refl, sym, ap, ◌∙◌, subst, inl, inr, arith}
use Rattle.std.specs.List.{All, slice_index, slice_get}
use Rattle.std.proofs.lemmas.Bool.{cases_lt, and_parts, and_from, eqb-true, eq-eqb}
use Rattle.std.proofs.lemmas.Int.{ints}
use Rattle.std.proofs.lemmas.List.{get_or_default, length-map}
use Rattle.std.proofs.lemmas.Option.{same_Some, slice_get_within, get_or_from_slice_get}
use Rattle.machine_data.specs.declared.alternative.Row.{Row}
use Rattle.machine_data.specs.Alternative.{residue_of, rows_meet}
use Rattle.edges.specs.Edges.{EdgeData}
use Rattle.edges.specs.Schedules.{KeepsEdge, KeepsUnits, issued_rows}
use Rattle.mrt.specs.Placements.{OperationAlternatives, Placements, rows_of}
use Rattle.schedules.specs.declared.breach.Breach.{Breach}
use Rattle.schedules.specs.declared.breach.Breach.TheVariants.{Count, Time, Alternative, Slot, Edge, Stage}
use Rattle.schedules.specs.Breaches.{times_in, choices_in, IsInRange, AreInRange, BreaksTime, BreaksAlternative, ComesBefore, TakesSlot, BreaksSlot, IsFirstUnkept, BreaksStage, IsFirstBreach}
use Rattle.schedules.specs.Problems.{ProblemData, IsProblem}
use Rattle.schedules.specs.Promises.{BreachesBreak, OneBreach}
use Rattle.schedules.specs.Schedules.{IsSchedule, as_listed}
use Rattle.schedules.specs.inner.Listed.{IsFirstTaken}
use Rattle.schedules.proofs.lawfulness.Checking.{ArePlaced, takes_from, taken_where, none_before, time_at, choice_at}
use Rattle.schedules.proofs.lawfulness.Stages.{time_below}

-- ---- an item of a list
pub times_few : (operations : OperationAlternatives) (places : List (ℕ × ℕ)) → AreInRange operations places → All (λ (p : ℕ × ℕ). p.0 < 2 ^ 32) places
times_few operations places range op d there =
    let time : slice_index (times_in places) op < 1048576 = (range.each op (omega (arith, range.whole))).time in
    let same : slice_index (times_in places) op ≡ (get_or places op d).0 = time_at places op d there in
    omega arith

pub in_range_at : (operations others : OperationAlternatives) (places : List (ℕ × ℕ)) (op : ℕ) (offered list : List (List Row)) → op < length places → length places ≡ length others
    → others ≡ operations → offered ≡ get_or others op offered → list ≡ offered
    → (get_or places op (0, 0)).0 < 1048576 → (get_or places op (0, 0)).1 < length list → IsInRange operations places op
in_range_at operations others places op offered list listed whole same is_offered is_list time choice =
    let is : list ≡ get_or operations op [] = is_list ∙ is_offered ∙ get_or_default others op offered [] (omega (arith, whole)) ∙ ap (λ (os : OperationAlternatives). get_or os op []) same in
    record {
      time = subst (λ n. n < 1048576) (sym (time_at places op (0, 0) listed)) time;
      alternative = subst (λ n. n < length (get_or operations op [])) (sym (choice_at places op (0, 0) listed)) (subst (λ (l : List (List Row)). (get_or places op (0, 0)).1 < length l) is choice);
    }

-- ---- two rows
order : (p i q j : ℕ) → ComesBefore p i q j ⊎ (ComesBefore q j p i ⊎ ((p ≡ q) × (i ≡ j)))
order p i q j = elim (cases_lt p q) [
  | inl less ↦ inl (inl less)
  | inr past ↦ elim (cases_lt q p) [
    | inl less ↦ inr (inl (inl less))
    | inr le ↦
        let same : p ≡ q = omega arith in
        elim (cases_lt i j) [
          | inl less ↦ inl (inr (same, less))
          | inr rest ↦ elim (cases_lt j i) [
            | inl less ↦ inr (inl (inr (sym same, less)))
            | inr more ↦ (let one : i ≡ j = omega arith in inr (inr (same, one)))
          ]
        ]
  ]
]

-- rows that take the slot of one row take one another's
meet_both : (ii : ℕ) (row one other : Row) (t a b : ℕ) → rows_meet ii row t one a ≡ true → rows_meet ii row t other b ≡ true → rows_meet ii one a other b ≡ true
meet_both ii row one other t a b x y =
    let p = and_parts (eqb row.unit one.unit) (eqb (residue_of ii row t) (residue_of ii one a)) x in
    let q = and_parts (eqb row.unit other.unit) (eqb (residue_of ii row t) (residue_of ii other b)) y in
    and_from (eqb one.unit other.unit) (eqb (residue_of ii one a) (residue_of ii other b))
    (eq-eqb one.unit other.unit (sym (eqb-true row.unit one.unit p.0) ∙ eqb-true row.unit other.unit q.0))
    (eq-eqb (residue_of ii one a) (residue_of ii other b) (sym (eqb-true (residue_of ii row t) (residue_of ii one a) p.1) ∙ eqb-true (residue_of ii row t) (residue_of ii other b) q.1))

-- an edge whose target is issued too early is not kept
edge_short : (ii : ℕ) (times : List ℕ) (e : EdgeData) (early : ℕ) → 1 ≤ early
    → pos (slice_index times e.to + ii * e.distance + early) ≡ (pos (slice_index times e.from) +ℤ e.delay) → KeepsEdge ii times e → ⊥
edge_short ii times e early some short keeps = omega (arith, ints)

module _ (problem : ProblemData) (ii : ℕ) (places : List (ℕ × ℕ)) where
  abbrev times : List ℕ
  times = times_in places

  abbrev choices : List ℕ
  choices = choices_in places

  abbrev Takes : ℕ → ℕ → ℕ → ℕ → Type 0
  Takes p i q j = TakesSlot ii problem.operations times choices p i q j

  -- ---- what is found by placing the operations one after another
  pub slot_breaks : (placed : Placements) (op : ℕ) (breach : Breach) → 0 < ii → AreInRange problem.operations places → op < length problem.operations
      → ArePlaced ii problem.operations places placed op
      → IsFirstTaken ii problem.operations placed (issued_rows problem.operations choices op) op (slice_index times op) breach → IsFirstBreach problem ii places breach
  slot_breaks placed op breach some range there are taken =
      let t = takes_from ii problem.operations places placed op are there taken.i taken.earlier taken.taken in
      let broken : BreaksSlot problem ii places taken.earlier op taken.taken.row.unit (residue_of ii taken.taken.row (slice_index times op)) = record {
        in_range = range;
        there = there;
        i = t.0;
        j = taken.i;
        takes = t.1;
        is_unit = ap (λ (r : Row). r.unit) (sym t.2);
        is_residue = ap (λ (r : Row). residue_of ii r (slice_index times op)) (sym t.2);
        first = λ p k q l before takes. elim before [
          | inl less ↦ none_before ii problem.operations places placed op are there some p k q l less takes
          | inr h ↦
              taken.first l p h.1
              (taken_where ii problem.operations places placed op are there some p k l (subst (λ o. TakesSlot ii problem.operations times choices p k o l) h.0 takes))
        ];
      } in
      subst (IsFirstBreach problem ii places) (sym taken.named) broken

  -- the same, as the item is read and told by a table
  pub slot_found : (placed : Placements) (op at : ℕ) (others : OperationAlternatives) (breach : Breach) → 0 < ii → AreInRange problem.operations places
      → op < length places → at ≡ ii → others ≡ problem.operations → ArePlaced ii problem.operations places placed op
      → IsFirstTaken at others placed (rows_of others op (get_or places op (0, 0)).1) op (get_or places op (0, 0)).0 breach → IsFirstBreach problem ii places breach
  slot_found placed op at others breach some range listed is_interval same are taken =
      let here : ℕ × ℕ = get_or places op (0, 0) in
      slot_breaks placed op breach some range (omega (arith, range.whole)) are
      (subst (λ n. IsFirstTaken ii problem.operations placed (rows_of problem.operations op n) op (slice_index times op) breach) (sym (choice_at places op (0, 0) listed))
      (subst (λ n. IsFirstTaken ii problem.operations placed (rows_of problem.operations op here.1) op n breach) (sym (time_at places op (0, 0) listed))
      (subst (λ (os : OperationAlternatives). IsFirstTaken ii os placed (rows_of os op here.1) op here.0 breach) same
      (subst (λ n. IsFirstTaken n others placed (rows_of others op here.1) op here.0 breach) is_interval taken))))

  -- ---- the whole
  pub IsSchedule-listed : IsProblem problem → 1 ≤ ii → ii ≤ 16384 → AreInRange problem.operations places
      → KeepsUnits ii problem.operations times choices → All (KeepsEdge ii times) problem.graph.edges
      → All (λ (p : ℕ × ℕ). p.0 / ii < 64) places → IsSchedule (as_listed problem ii places)
  IsSchedule-listed is some few range units edges stages = record {
    problem = is;
    ii_some = some;
    ii_few = few;
    lawful = record {
      plan = record {
        each_time = length-map places (λ (p : ℕ × ℕ). p.0) ∙ range.whole;
        each_choice = length-map places (λ (p : ℕ × ℕ). p.1) ∙ range.whole;
        there = λ op below. (range.each op below).alternative;
      };
      keeps_units = units;
      keeps_edges = edges;
    };
    stages = λ op d below.
        let listed : op < length places = omega (arith, length-map places (λ (p : ℕ × ℕ). p.0)) in
        subst (λ n. n / ii < 64) (sym (time_at places op (0, 0) listed) ∙ get_or_default times op 0 d below) (stages op (0, 0) listed);
  }

  -- ---- what is broken does not hold
  pub time_breaks : (op : ℕ) → BreaksTime problem places op → AreInRange problem.operations places → ⊥
  time_breaks op b range = omega (arith, b.late, (range.each op b.before.there).time)

  pub alternative_breaks : (op : ℕ) → BreaksAlternative problem places op → AreInRange problem.operations places → ⊥
  alternative_breaks op b range = omega (arith, b.absent, (range.each op b.before.there).alternative)

  pub slot_taken : (p i q j : ℕ) → q < length problem.operations → Takes p i q j → KeepsUnits ii problem.operations times choices → ⊥
  slot_taken p i q j there t keeps =
      let p_there : p < length problem.operations = elim t.before [ inl less ↦ omega arith | inr h ↦ omega (arith, h.0) ] in
      let rows : List Row = issued_rows problem.operations choices q in
      let others : List Row = issued_rows problem.operations choices p in
      let meet : rows_meet ii (get_or rows j t.row) (slice_index times q) (get_or others i t.row) (slice_index times p) ≡ true
      = subst (λ (r : Row). rows_meet ii r (slice_index times q) (get_or others i t.row) (slice_index times p) ≡ true) (sym (get_or_from_slice_get rows j t.row t.row t.is_row))
      (subst (λ (r : Row). rows_meet ii t.row (slice_index times q) r (slice_index times p) ≡ true) (sym (get_or_from_slice_get others i t.other t.row t.is_other)) t.meet) in
      let same = keeps q p j i t.row there p_there (slice_get_within rows j t.row t.is_row) (slice_get_within others i t.other t.is_other) meet in
      let one : q ≡ p = same.0 in
      let once : j ≡ i = same.1 in
      elim t.before [ inl less ↦ omega arith | inr less ↦ omega (arith, less.1) ]

  pub edge_breaks : (edge : EdgeData) (early : ℕ) → IsFirstUnkept ii times problem.graph.edges edge early → All (KeepsEdge ii times) problem.graph.edges → ⊥
  edge_breaks edge early u all =
      let here : get_or problem.graph.edges u.place edge ≡ edge = get_or_from_slice_get problem.graph.edges u.place edge edge u.is_edge in
      edge_short ii times edge early u.some u.short
      (subst (KeepsEdge ii times) here (all u.place edge (slice_get_within problem.graph.edges u.place edge u.is_edge)))

  -- ---- what is broken first is one thing
  same_time : (op other : ℕ) → BreaksTime problem places op → BreaksTime problem places other → op ≡ other
  same_time op other x y = elim (cases_lt op other) [
    | inl less ↦ absurd (omega (arith, x.late, (y.before.before op less).time))
    | inr past ↦ elim (cases_lt other op) [
      | inl less ↦ absurd (omega (arith, y.late, (x.before.before other less).time))
      | inr le ↦ omega arith
    ]
  ]

  time_or_alternative : (op other : ℕ) → BreaksTime problem places op → BreaksAlternative problem places other → ⊥
  time_or_alternative op other x y = elim (cases_lt op other) [
    | inl less ↦ omega (arith, x.late, (y.before.before op less).time)
    | inr past ↦ elim (cases_lt other op) [
      | inl less ↦ omega (arith, y.absent, (x.before.before other less).alternative)
      | inr le ↦
          let same : other ≡ op = omega arith in
          let few : slice_index times op < 1048576 = subst (λ o. slice_index times o < 1048576) same y.time in
          omega (arith, x.late)
    ]
  ]

  same_alternative : (op other : ℕ) → BreaksAlternative problem places op → BreaksAlternative problem places other → op ≡ other
  same_alternative op other x y = elim (cases_lt op other) [
    | inl less ↦ absurd (omega (arith, x.absent, (y.before.before op less).alternative))
    | inr past ↦ elim (cases_lt other op) [
      | inl less ↦ absurd (omega (arith, y.absent, (x.before.before other less).alternative))
      | inr le ↦ omega arith
    ]
  ]

  -- of two rows that have the slot of one row, the second takes that of the first
  taken_between : (p i q j l k : ℕ) (one : Takes p i l k) (other : Takes q j l k) → ComesBefore p i q j → Takes p i q j
  taken_between p i q j l k one other before =
      let rows : List Row = issued_rows problem.operations choices l in
      let row : one.row ≡ other.row = same_Some one.row other.row (sym one.is_row ∙ other.is_row) in
      let meet : rows_meet ii other.row (slice_index times l) one.other (slice_index times p) ≡ true
      = subst (λ (r : Row). rows_meet ii r (slice_index times l) one.other (slice_index times p) ≡ true) row one.meet in
      record {
        row = other.other;
        is_row = other.is_other;
        other = one.other;
        is_other = one.is_other;
        before = before;
        meet = meet_both ii other.row other.other one.other (slice_index times l) (slice_index times q) (slice_index times p) other.meet meet;
      }

  same_taken : (p i q j l k : ℕ) (one : Takes p i l k) (other : Takes q j l k)
      → ((a b c d : ℕ) → ComesBefore c d l k → Takes a b c d → ⊥) → p ≡ q
  same_taken p i q j l k one other first = elim (order p i q j) [
    | inl before ↦ absurd (first p i q j other.before (taken_between p i q j l k one other before))
    | inr rest ↦ elim rest [
      | inl after ↦ absurd (first q j p i one.before (taken_between q j p i l k other one after))
      | inr same ↦ same.0
    ]
  ]

  same_slot : (e f l u v r s : ℕ) (x : BreaksSlot problem ii places e l u r) (y : BreaksSlot problem ii places f l v s) → x.j ≡ y.j
      → (let one : Breach = Slot e l u r in one) ≡ Slot f l v s
  same_slot e f l u v r s x y at =
      let mine : Takes e x.i l y.j = subst (λ j. Takes e x.i l j) at x.takes in
      let one : e ≡ f = same_taken e x.i f y.i l y.j mine y.takes y.first in
      let row : x.takes.row ≡ y.takes.row
      = same_Some x.takes.row y.takes.row (sym x.takes.is_row ∙ ap (slice_get (issued_rows problem.operations choices l)) at ∙ y.takes.is_row) in
      let unit : u ≡ v = x.is_unit ∙ ap (λ (r : Row). r.unit) row ∙ sym y.is_unit in
      let residue : r ≡ s = x.is_residue ∙ ap (λ (r : Row). residue_of ii r (slice_index times l)) row ∙ sym y.is_residue in
      cc

  one_slot : (e f l m u v r s : ℕ) (x : BreaksSlot problem ii places e l u r) (y : BreaksSlot problem ii places f m v s)
      → (let one : Breach = Slot e l u r in one) ≡ Slot f m v s
  one_slot e f l m u v r s x y = elim (order l x.j m y.j) [
    | inl before ↦ absurd (y.first e x.i l x.j before x.takes)
    | inr rest ↦ elim rest [
      | inl after ↦ absurd (x.first f y.i m y.j after y.takes)
      | inr same ↦
          subst (λ n. (z : BreaksSlot problem ii places f n v s) → x.j ≡ z.j → (let one : Breach = Slot e l u r in one) ≡ Slot f n v s) same.0
          (λ z at. same_slot e f l u v r s x z at) y same.1
    ]
  ]

  one_edge : (e f : EdgeData) (m n : ℕ) → IsFirstUnkept ii times problem.graph.edges e m → IsFirstUnkept ii times problem.graph.edges f n
      → (let one : Breach = Edge e m in one) ≡ Edge f n
  one_edge e f m n x y = elim (cases_lt x.place y.place) [
    | inl less ↦ absurd (edge_short ii times e m x.some x.short (y.before x.place e less x.is_edge))
    | inr past ↦ elim (cases_lt y.place x.place) [
      | inl less ↦ absurd (edge_short ii times f n y.some y.short (x.before y.place f less y.is_edge))
      | inr le ↦
          let at : x.place ≡ y.place = omega arith in
          let same : e ≡ f = same_Some e f (sym x.is_edge ∙ ap (slice_get problem.graph.edges) at ∙ y.is_edge) in
          let short : pos (slice_index times f.to + ii * f.distance + m) ≡ (pos (slice_index times f.from) +ℤ f.delay)
          = subst (λ (e : EdgeData). pos (slice_index times e.to + ii * e.distance + m) ≡ (pos (slice_index times e.from) +ℤ e.delay)) same x.short in
          let cycles : m ≡ n = omega (arith, ints, short, y.short) in
          cc
    ]
  ]

  same_stage : (op other : ℕ) → BreaksStage problem ii places op → BreaksStage problem ii places other → op ≡ other
  same_stage op other x y = elim (cases_lt op other) [
    | inl less ↦ absurd (omega (arith, x.late, y.before op less))
    | inr past ↦ elim (cases_lt other op) [
      | inl less ↦ absurd (omega (arith, y.late, x.before other less))
      | inr le ↦ omega arith
    ]
  ]

-- ---- laws
pub breaches-break : BreachesBreak
breaches-break problem ii places Count some few b is =
    b (let h : length places ≡ length problem.operations = omega (arith, is.lawful.plan.each_time, length-map places (λ (p : ℕ × ℕ). p.0)) in h)
breaches-break problem ii places (Time op) some few b is =
    let below : slice_index (times_in places) op < 64 * ii = time_below (as_listed problem ii places) op is b.before.there in
    omega (arith, b.late)
breaches-break problem ii places (Alternative op) some few b is = omega (arith, b.absent, is.lawful.plan.there op b.before.there)
breaches-break problem ii places (Slot earlier later unit residue) some few b is =
    slot_taken problem ii places earlier b.i later b.j b.there b.takes is.lawful.keeps_units
breaches-break problem ii places (Edge edge early) some few b is = edge_breaks problem ii places edge early b.unkept is.lawful.keeps_edges
breaches-break problem ii places (Stage op) some few b is =
    let there : op < length (times_in places) = omega (arith, b.there, b.in_range.whole, length-map places (λ (p : ℕ × ℕ). p.0)) in
    omega (arith, b.late, is.stages op 0 there)

pub one-breach : OneBreach
one-breach problem ii places Count Count x y = refl
one-breach problem ii places Count (Time o) x y = absurd (x y.before.whole)
one-breach problem ii places Count (Alternative o) x y = absurd (x y.before.whole)
one-breach problem ii places Count (Slot e l u r) x y = absurd (x y.in_range.whole)
one-breach problem ii places Count (Edge e n) x y = absurd (x y.in_range.whole)
one-breach problem ii places Count (Stage o) x y = absurd (x y.in_range.whole)
one-breach problem ii places (Time p) Count x y = absurd (y x.before.whole)
one-breach problem ii places (Time p) (Time o) x y = ap (λ n. Time n) (same_time problem ii places p o x y)
one-breach problem ii places (Time p) (Alternative o) x y = absurd (time_or_alternative problem ii places p o x y)
one-breach problem ii places (Time p) (Slot e l u r) x y = absurd (time_breaks problem ii places p x y.in_range)
one-breach problem ii places (Time p) (Edge e n) x y = absurd (time_breaks problem ii places p x y.in_range)
one-breach problem ii places (Time p) (Stage o) x y = absurd (time_breaks problem ii places p x y.in_range)
one-breach problem ii places (Alternative p) Count x y = absurd (y x.before.whole)
one-breach problem ii places (Alternative p) (Time o) x y = absurd (time_or_alternative problem ii places o p y x)
one-breach problem ii places (Alternative p) (Alternative o) x y = ap (λ n. Alternative n) (same_alternative problem ii places p o x y)
one-breach problem ii places (Alternative p) (Slot e l u r) x y = absurd (alternative_breaks problem ii places p x y.in_range)
one-breach problem ii places (Alternative p) (Edge e n) x y = absurd (alternative_breaks problem ii places p x y.in_range)
one-breach problem ii places (Alternative p) (Stage o) x y = absurd (alternative_breaks problem ii places p x y.in_range)
one-breach problem ii places (Slot f m v s) Count x y = absurd (y x.in_range.whole)
one-breach problem ii places (Slot f m v s) (Time o) x y = absurd (time_breaks problem ii places o y x.in_range)
one-breach problem ii places (Slot f m v s) (Alternative o) x y = absurd (alternative_breaks problem ii places o y x.in_range)
one-breach problem ii places (Slot f m v s) (Slot e l u r) x y = one_slot problem ii places f e m l v u s r x y
one-breach problem ii places (Slot f m v s) (Edge e n) x y = absurd (slot_taken problem ii places f x.i m x.j x.there x.takes y.units)
one-breach problem ii places (Slot f m v s) (Stage o) x y = absurd (slot_taken problem ii places f x.i m x.j x.there x.takes y.units)
one-breach problem ii places (Edge f m) Count x y = absurd (y x.in_range.whole)
one-breach problem ii places (Edge f m) (Time o) x y = absurd (time_breaks problem ii places o y x.in_range)
one-breach problem ii places (Edge f m) (Alternative o) x y = absurd (alternative_breaks problem ii places o y x.in_range)
one-breach problem ii places (Edge f m) (Slot e l u r) x y = absurd (slot_taken problem ii places e y.i l y.j y.there y.takes x.units)
one-breach problem ii places (Edge f m) (Edge e n) x y = one_edge problem ii places f e m n x.unkept y.unkept
one-breach problem ii places (Edge f m) (Stage o) x y = absurd (edge_breaks problem ii places f m x.unkept y.edges)
one-breach problem ii places (Stage p) Count x y = absurd (y x.in_range.whole)
one-breach problem ii places (Stage p) (Time o) x y = absurd (time_breaks problem ii places o y x.in_range)
one-breach problem ii places (Stage p) (Alternative o) x y = absurd (alternative_breaks problem ii places o y x.in_range)
one-breach problem ii places (Stage p) (Slot e l u r) x y = absurd (slot_taken problem ii places e y.i l y.j y.there y.takes x.units)
one-breach problem ii places (Stage p) (Edge e n) x y = absurd (edge_breaks problem ii places e n y.unkept x.edges)
one-breach problem ii places (Stage p) (Stage o) x y = ap (λ n. Stage n) (same_stage problem ii places p o x y)
