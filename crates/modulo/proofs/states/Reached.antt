-- What each state of the machine keeps, and that its end is lawful.
use Rattle.std.proofs.Common.{◌≡◌, ◌≢◌, ℕ, ℤ, zero, suc, ◌+◌, ◌*◌, ◌<◌, ◌≤◌, pos, ◌+ℤ◌, true, false, ltb, cond, List, [], ◌∷◌, length, get_or, Option, Some, None, refl, sym, ap, ◌∙◌, subst, inl, inr, arith}
use Rattle.std.specs.Prelude.{◌≤ℤ◌, ◌<ℤ◌, MatchOption}
use Rattle.std.specs.List.{All, Contains, slice_get, slice_index}
use Rattle.std.specs.Option.{option_flatten}
use Rattle.std.proofs.lemmas.Bool.{cases_eq, cases_Bool, ltb-false}
use Rattle.std.proofs.lemmas.Int.{ints, by_lt_z}
use Rattle.std.proofs.lemmas.List.{length-replicate}
use Rattle.std.proofs.lemmas.List.Elements.{Contains-get_or}
use Rattle.std.proofs.lemmas.Option.{none-some, same_Some}
use Rattle.machine_data.specs.declared.alternative.Row.{Row}
use Rattle.machine_data.specs.Alternative.{residue_of, collides}
use Rattle.edges.specs.Edges.{EdgeData}
use Rattle.walks.specs.Walks.{FitsCircuits, delay_of, distance_of}
use Rattle.edges.specs.Schedules.{IsPlan, KeepsUnits, KeepsEdge, IsLawfulSchedule}
use Rattle.walks.proofs.Settling.{fits-at_longer}
use Rattle.mrt.specs.Placements.{Placement, placement_of, alternatives_of, rows_of, IsMetBy, IsFree, IsFirstSlot}
use Rattle.mrt.specs.Taken.{Takes, AreApart, takes}
use Rattle.mrt.proofs.searching.Taking.{takes_place, met_from_takes, unplaced_at_first}
use Rattle.mrt.proofs.searching.Scheduling.{AreApart-none}
use Rattle.schedules.specs.Problems.{ProblemData, IsProblem, mii_of}
use Rattle.modulo.specs.Scheduling.{State, empty, ComesFrom, forced_time, IsForced, IsEvicted, IsStep, LeadsTo}
use Rattle.modulo.specs.Attempts.{IsAllPlaced}
use Rattle.modulo.specs.Promises.{AttemptsAreLawful}
use Rattle.schedules.proofs.lawfulness.Slots.{KeepsUnits-apart}

-- ---- what each state keeps
-- the operation has this alternative, which does not collide
pub record IsSound (problem : ProblemData) (ii op alternative : ℕ) : Type 0 where
  pub there : alternative < length (alternatives_of problem.operations op)
  pub sound : collides ii (rows_of problem.operations op alternative) ≡ false

-- an edge between two operations placed so keeps its demand
abbrev pub Keeps : ℕ → EdgeData → Placement → Placement → Type 0
Keeps ii edge a b = (pos a.time +ℤ edge.delay) ≤ℤ pos (b.time + ii * edge.distance)

pub record IsReached (problem : ProblemData) (ii : ℕ) (state : State) : Type 0 where
  pub whole : length state.placed ≡ length problem.operations
  pub sound : (op : ℕ) (at : Placement) → placement_of state.placed op ≡ Some at → IsSound problem ii op at.alternative
  pub apart : AreApart ii problem.operations state.placed
  pub keeps : (edge : EdgeData) (a b : Placement) → Contains problem.graph.edges edge → edge.from ≢ edge.to
      → placement_of state.placed edge.from ≡ Some a → placement_of state.placed edge.to ≡ Some b → Keeps ii edge a b

pub IsReached-empty : (problem : ProblemData) (ii : ℕ) → IsReached problem ii (empty (length problem.operations))
IsReached-empty problem ii =
    let n : ℕ = length problem.operations in
    let none : Option Placement = None in
    record {
      whole = length-replicate n none;
      sound = λ op at placed. absurd (none-some at (sym (unplaced_at_first n op) ∙ placed));
      apart = AreApart-none ii problem.operations n;
      keeps = λ edge a b there another placed also. absurd (none-some a (sym (unplaced_at_first n edge.from) ∙ placed));
    }

not_before : (previous : Option ℕ) (earliest : ℕ) → earliest ≤ forced_time previous earliest
not_before None earliest = omega arith
not_before (Some previous) earliest = elim (cases_Bool (ltb previous earliest)) [
  | inl before ↦ subst (λ b. earliest ≤ cond b earliest (previous + 1)) (sym before) (let h : earliest ≤ earliest = omega arith in h)
  | inr after ↦ subst (λ b. earliest ≤ cond b earliest (previous + 1)) (sym after)
      (let l : earliest ≤ previous = ltb-false previous earliest after in let h : earliest ≤ previous + 1 = omega arith in h)
]

-- a placement has an alternative that does not collide, and is not before the earliest time
placed_well : (problem : ProblemData) (ii : ℕ) (state : State) (p earliest : ℕ) (at : Placement) (slot : Option (ℕ × ℕ))
    → IsFirstSlot ii problem.operations state.placed p earliest slot
    → MatchOption slot (IsForced problem ii state p earliest at) (λ free. at ≡ record { time = free.0; alternative = free.1 })
    → IsSound problem ii p at.alternative × (earliest ≤ at.time)
placed_well problem ii state p earliest at None first forced = (
  record { there = forced.choice.there; sound = forced.choice.sound },
  subst (λ t. earliest ≤ t) (sym forced.time) (not_before (option_flatten (slice_get state.previous p)) earliest),
)
placed_well problem ii state p earliest at (Some free) first is =
    let found : Placement = record { time = free.0; alternative = free.1 } in
    let P : Placement → Type 0 = λ at. IsSound problem ii p at.alternative × (earliest ≤ at.time) in
    let f : IsFree ii problem.operations state.placed p free.0 free.1 = first.2.0 in
    let h : P found = (record { there = f.there; sound = f.fits.sound }, first.0) in
    subst P (sym is) h

not_less : (a b : ℤ) → (b <ℤ a → ⊥) → a ≤ℤ b
not_less a b never = by_lt_z {P = a ≤ℤ b} b a (λ less. absurd (never less)) (λ le. le)

module _ (problem : ProblemData) (ii : ℕ) (heights : List ℕ) (state next : State) (step : IsStep problem ii heights state next) where
  -- what is placed after the step, besides the operation of the step, was so before, and is not evicted
  stays : (q : ℕ) (b : Placement) → q ≢ step.p → placement_of next.placed q ≡ Some b
      → (IsEvicted problem ii state step.p step.at q → ⊥) × (placement_of state.placed q ≡ Some b)
  stays q b other placed =
      let spared : IsEvicted problem ii state step.p step.at q → ⊥ = λ e. none-some b (sym (step.evicted q e) ∙ placed) in
      (spared, sym (step.kept q other spared) ∙ placed)

  is_at : (q : ℕ) (b : Placement) → q ≡ step.p → placement_of next.placed q ≡ Some b → step.at ≡ b
  is_at q b same placed = same_Some step.at b (sym step.placed ∙ ap (λ k. placement_of next.placed k) (sym same) ∙ placed)

  takes_before : (unit residue q : ℕ) → q ≢ step.p → Takes ii problem.operations next.placed unit residue q → Takes ii problem.operations state.placed unit residue q
  takes_before unit residue q other t = record { at = t.at; is_placed = (stays q t.at other t.is_placed).1; takes = t.takes }

  -- no other operation takes a slot that the placed one takes
  own_slots : (unit residue q : ℕ) → q ≢ step.p → Takes ii problem.operations next.placed unit residue step.p
      → Takes ii problem.operations next.placed unit residue q → ⊥
  own_slots unit residue q other own taken =
      let same : step.at ≡ own.at = is_at step.p own.at refl own.is_placed in
      let rows : List Row = rows_of problem.operations step.p step.at.alternative in
      let mine : takes ii rows step.at.time unit residue ≡ true
      = subst (λ (at : Placement). takes ii (rows_of problem.operations step.p at.alternative) at.time unit residue ≡ true) (sym same) own.takes in
      let k = takes_place ii rows step.at.time unit residue mine in
      let d : Row = record { unit = 0; offset = 0 } in
      let e = k.2 d in
      let before : Takes ii problem.operations state.placed unit residue q = takes_before unit residue q other taken in
      let there : Takes ii problem.operations state.placed (get_or rows k.0 d).unit (residue_of ii (get_or rows k.0 d) step.at.time) q
      = subst (λ u. Takes ii problem.operations state.placed u (residue_of ii (get_or rows k.0 d) step.at.time) q) e.0
      (subst (λ r. Takes ii problem.operations state.placed unit r q) e.1 before) in
      let met : IsMetBy ii problem.operations state.placed rows step.at.time q = met_from_takes ii problem.operations state.placed rows step.at.time q k.0 d k.1 there in
      (stays q taken.at other taken.is_placed).0 (other, inl met)

  apart_after : AreApart ii problem.operations state.placed → AreApart ii problem.operations next.placed
  apart_after apart unit residue x y s t = elim (cases_eq x step.p) [
    | inl mine ↦ elim (cases_eq y step.p) [
      | inl also ↦ mine ∙ sym also
      | inr other ↦ absurd (own_slots unit residue y other (subst (λ k. Takes ii problem.operations next.placed unit residue k) mine s) t)
    ]
    | inr other ↦ elim (cases_eq y step.p) [
      | inl mine ↦ absurd (own_slots unit residue x other (subst (λ k. Takes ii problem.operations next.placed unit residue k) mine t) s)
      | inr another ↦ apart unit residue x y (takes_before unit residue x other s) (takes_before unit residue y another t)
    ]
  ]

  well : IsSound problem ii step.p step.at.alternative × (step.is_place.earliest ≤ step.at.time)
  well = placed_well problem ii state step.p step.is_place.earliest step.at step.is_place.slot step.is_place.is_slot step.is_place.chosen

  sound_after : IsReached problem ii state → (op : ℕ) (at : Placement) → placement_of next.placed op ≡ Some at → IsSound problem ii op at.alternative
  sound_after r op at placed = elim (cases_eq op step.p) [
    | inl mine ↦
        let same : step.at ≡ at = is_at op at mine placed in
        subst (λ (k : ℕ). IsSound problem ii k at.alternative) (sym mine)
        (subst (λ (a : Placement). IsSound problem ii step.p a.alternative) same well.0)
    | inr other ↦ r.sound op at (stays op at other placed).1
  ]

  -- an edge to the placed operation, by the earliest time
  keeps_to : (edge : EdgeData) (a b : Placement) → Contains problem.graph.edges edge → edge.from ≢ step.p → edge.to ≡ step.p
      → placement_of next.placed edge.from ≡ Some a → step.at ≡ b → Keeps ii edge a b
  keeps_to edge a b there other mine placed is =
      let before : placement_of state.placed edge.from ≡ Some a = (stays edge.from a other placed).1 in
      let comes : ComesFrom problem state step.p edge a = record { listed = there; target = mine; another = other; is_placed = before } in
      let allowed : (pos a.time +ℤ edge.delay) ≤ℤ pos (step.is_place.earliest + ii * edge.distance) = step.is_place.is_earliest.allowed edge a comes in
      let late : step.is_place.earliest ≤ step.at.time = well.1 in
      let h : Keeps ii edge a step.at = omega (arith, ints) in
      subst (λ (p : Placement). Keeps ii edge a p) is h

  -- an edge from it, since it breaks none of an operation that stays
  keeps_from : (edge : EdgeData) (a b : Placement) → Contains problem.graph.edges edge → edge.to ≢ step.p → edge.from ≡ step.p
      → placement_of next.placed edge.to ≡ Some b → step.at ≡ a → Keeps ii edge a b
  keeps_from edge a b there other mine placed is =
      let s = stays edge.to b other placed in
      let h : Keeps ii edge step.at b
      = not_less (pos step.at.time +ℤ edge.delay) (pos (b.time + ii * edge.distance))
      (λ late. s.0 (other, inr (record { edge = edge; listed = there; source = mine; target = refl; other = b; is_placed = s.1; late = late }))) in
      subst (λ (p : Placement). Keeps ii edge p b) is h

  keeps_after : IsReached problem ii state → (edge : EdgeData) (a b : Placement) → Contains problem.graph.edges edge → edge.from ≢ edge.to
      → placement_of next.placed edge.from ≡ Some a → placement_of next.placed edge.to ≡ Some b → Keeps ii edge a b
  keeps_after r edge a b there another from to = elim (cases_eq edge.from step.p) [
    | inl mine ↦ keeps_from edge a b there (λ e. another (mine ∙ sym e)) mine to (is_at edge.from a mine from)
    | inr other ↦ elim (cases_eq edge.to step.p) [
      | inl mine ↦ keeps_to edge a b there other mine from (is_at edge.to b mine to)
      | inr neither ↦ r.keeps edge a b there another (stays edge.from a other from).1 (stays edge.to b neither to).1
    ]
  ]

  pub IsReached-step : IsReached problem ii state → IsReached problem ii next
  IsReached-step r = record { whole = step.whole ∙ r.whole; sound = sound_after r; apart = apart_after r.apart; keeps = keeps_after r }

pub reached : (problem : ProblemData) (ii : ℕ) (heights : List ℕ) (steps : ℕ) (state : State) → LeadsTo problem ii heights steps state → IsReached problem ii state
reached problem ii heights zero state a = subst (IsReached problem ii) (sym a) (IsReached-empty problem ii)
reached problem ii heights (suc steps) state a = IsReached-step problem ii heights a.0 state a.2 (reached problem ii heights steps a.0 a.1)

-- ---- the end is lawful
module _ (problem : ProblemData) (ii : ℕ) (is : IsProblem problem) (from : mii_of problem ≤ ii) (state : State) (r : IsReached problem ii state)
    (times choices : List ℕ) (all : IsAllPlaced problem state times choices) where
  abbrev at_of : ℕ → Placement
  at_of op = record { time = slice_index times op; alternative = slice_index choices op }

  plan : IsPlan problem.operations times choices
  plan = record { each_time = all.each_time; each_choice = all.each_choice; there = λ op below. (r.sound op _ (all.each op below)).there }

  some : 0 < ii
  some = let h : 1 ≤ problem.recurrences = is.recurrence_bound.from_one in omega arith

  units : KeepsUnits ii problem.operations times choices
  units =
      KeepsUnits-apart ii problem.operations state.placed times choices some all.each (λ op below. (r.sound op _ (all.each op below)).sound) r.apart

  -- an edge from an operation to itself is a circuit
  keeps_own : (edge : EdgeData) → Contains problem.graph.edges edge → edge.from ≡ edge.to → KeepsEdge ii times edge
  keeps_own edge there same =
      let le : problem.recurrences ≤ ii = omega arith in
      let fits : FitsCircuits problem.graph.edges ii = fits-at_longer problem.graph.edges problem.recurrences ii le is.recurrence_bound.fits in
      let h : delay_of (edge ∷ []) ≤ℤ pos (ii * distance_of (edge ∷ [])) = fits edge.from (edge ∷ []) (there, refl, sym same) in
      let d : ii * (edge.distance + 0) ≡ ii * edge.distance = ap (λ n. ii * n) (let e : edge.distance + 0 ≡ edge.distance = omega arith in e) in
      let t : slice_index times edge.from ≡ slice_index times edge.to = ap (slice_index times) same in
      let g : (edge.delay +ℤ pos 0) ≤ℤ pos (ii * (edge.distance + 0)) = h in
      omega (arith, ints)

  edges : All (KeepsEdge ii times) problem.graph.edges
  edges k d below =
      let edge : EdgeData = get_or problem.graph.edges k d in
      let there : Contains problem.graph.edges edge = Contains-get_or problem.graph.edges k d below in
      let ends = is.graph.ends k d below in
      let from_there : edge.from < length problem.operations = omega (arith, ends.0, is.each_latency) in
      let to_there : edge.to < length problem.operations = omega (arith, ends.1, is.each_latency) in
      elim (cases_eq edge.from edge.to) [
        | inl same ↦ keeps_own edge there same
        | inr differ ↦ r.keeps edge (at_of edge.from) (at_of edge.to) there differ (all.each edge.from from_there) (all.each edge.to to_there)
      ]

  lawful : IsLawfulSchedule ii problem.operations problem.graph.edges times choices
  lawful = record { plan = plan; keeps_units = units; keeps_edges = edges }

pub attempts-are_lawful : AttemptsAreLawful
attempts-are_lawful problem ii budget times choices is from e =
    lawful problem ii is from e.state (reached problem ii e.stops.heights e.stops.steps e.state e.stops.leads) times choices e.has_all
