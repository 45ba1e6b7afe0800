-- An attempt has one answer: its machine has one next state, so one state after each number of steps, and one end.
use Rattle.std.proofs.Common.{◌≡◌, ◌≢◌, ◌⊎◌, ℕ, zero, suc, ◌+◌, ◌*◌, ◌/◌, ◌<◌, ◌≤◌, pos, ◌+ℤ◌, List, length, set, Option, Some, None, refl, sym, ap, ◌∙◌, subst, inl, inr, arith}
use Rattle.std.specs.Prelude.{◌≤ℤ◌, MatchOption}
use Rattle.std.specs.List.{slice_index}
use Rattle.std.specs.Option.{option_flatten}
use Rattle.std.proofs.lemmas.Bool.{cases_eq, cases_lt, both_ways}
use Rattle.std.proofs.lemmas.Int.{ints}
use Rattle.std.proofs.lemmas.List.{ext_get_or}
use Rattle.std.proofs.lemmas.Option.{none-some, same_Some, slice_get-get_or}
use Rattle.machine_data.specs.declared.alternative.Row.{Row}
use Rattle.edges.specs.Edges.{EdgeData}
use Rattle.walks.specs.Walks.{IsHeight, length_of, AreHeights}
use Rattle.mrt.specs.Placements.{OperationAlternatives, Placements, Placement, placement_of, IsFree, IsFirstSlot}
use Rattle.modulo.specs.declared.outcome.attempts.Try.{Try}
use Rattle.modulo.specs.declared.outcome.attempts.Try.TheVariants.{Placed, Failed}
use Rattle.modulo.specs.declared.outcome.attempts.Failure.TheVariants.{Table, Budget, Stages}
use Rattle.schedules.specs.Problems.{ProblemData, IsProblem}
use Rattle.schedules.specs.Schedules.{ScheduleData, IsSchedule}
use Rattle.modulo.specs.Scheduling.{State, IsUnplaced, IsNext, IsEarliest, IsFirstSound, IsForced, IsPlacement, IsEvicted, IsStep, LeadsTo, Stops}
use Rattle.modulo.specs.Attempts.{IsAllPlaced, EndsUnplaced, EndsPlaced, EndsLate, AnswersAttempt}
use Rattle.modulo.specs.Promises.{OneAnswer}

-- ---- one height, and one next operation
pub one_height : (edges : List EdgeData) (latencies : List ℕ) (ii p one other : ℕ) → IsHeight edges latencies ii p one → IsHeight edges latencies ii p other → one ≡ other
one_height edges latencies ii p one other a b =
    let x : length_of latencies ii a.walk a.end ≤ℤ pos other = b.longest a.walk a.end a.is_walk in
    let y : length_of latencies ii b.walk b.end ≤ℤ pos one = a.longest b.walk b.end b.is_walk in
    let s : pos one ≡ length_of latencies ii a.walk a.end = a.as_long in
    let t : pos other ≡ length_of latencies ii b.walk b.end = b.as_long in
    omega (arith, ints)

-- the numbers are the same for each operation
abbrev pub Agree : ℕ → List ℕ → List ℕ → Type 0
Agree count one other = (q : ℕ) → q < count → slice_index one q ≡ slice_index other q

pub one_next : (problem : ProblemData) (heights others : List ℕ) (state : State) (p q : ℕ) → Agree (length problem.operations) heights others
    → IsNext problem heights state p → IsNext problem others state q → p ≡ q
one_next problem heights others state p q agree a b =
    let x : slice_index heights p ≡ slice_index others p = agree p a.is_unplaced.there in
    let y : slice_index heights q ≡ slice_index others q = agree q b.is_unplaced.there in
    elim (a.highest q b.is_unplaced) [
      | inl less ↦ elim (b.highest p a.is_unplaced) [
        | inl more ↦ absurd (omega arith)
        | inr level ↦ let e : slice_index others p ≡ slice_index others q = level.0 in absurd (omega arith)
      ]
      | inr level ↦ elim (b.highest p a.is_unplaced) [
        | inl more ↦ let e : slice_index heights q ≡ slice_index heights p = level.0 in absurd (omega arith)
        | inr again ↦ let e : p ≤ q = level.1 in let f : q ≤ p = again.1 in omega arith
      ]
    ]

-- ---- one place
earliest_le : (problem : ProblemData) (ii : ℕ) (state : State) (p one other : ℕ) → IsEarliest problem ii state p one → IsEarliest problem ii state p other → one ≤ other
earliest_le problem ii state p one other a b = elim a.least [
  | inl none ↦ omega arith
  | inr demand ↦
      let at : Placement = demand.1 in
      let edge : EdgeData = demand.0 in
      let x : (pos at.time +ℤ edge.delay) ≤ℤ pos (other + ii * edge.distance) = b.allowed edge at demand.2 in
      let y : (pos at.time +ℤ edge.delay) ≡ pos (one + ii * edge.distance) = demand.3 in
      omega (arith, ints)
]

pub one_earliest : (problem : ProblemData) (ii : ℕ) (state : State) (p one other : ℕ) → IsEarliest problem ii state p one → IsEarliest problem ii state p other → one ≡ other
one_earliest problem ii state p one other a b =
    let x : one ≤ other = earliest_le problem ii state p one other a b in
    let y : other ≤ one = earliest_le problem ii state p other one b a in
    omega arith

-- of two numbers, neither below the other
level : (a b : ℕ) → (a < b → ⊥) → (b < a → ⊥) → a ≡ b
level a b x y = elim (cases_lt a b) [
  | inl less ↦ absurd (x less)
  | inr more ↦ elim (cases_lt b a) [
    | inl below ↦ absurd (y below)
    | inr above ↦ omega arith
  ]
]

pub one_sound : (ii : ℕ) (alternatives : List (List Row)) (one other : ℕ) → IsFirstSound ii alternatives one → IsFirstSound ii alternatives other → one ≡ other
one_sound ii alternatives one other a b = level one other (λ less. both_ways _ a.sound (b.first one less)) (λ more. both_ways _ b.sound (a.first other more))

pub one_slot : (ii : ℕ) (operations : OperationAlternatives) (placed : Placements) (op start : ℕ) (one other : Option (ℕ × ℕ))
    → IsFirstSlot ii operations placed op start one → IsFirstSlot ii operations placed op start other → one ≡ other
one_slot ii operations placed op start None None a b = refl
one_slot ii operations placed op start None (Some s) a b = absurd (a s.0 s.1 b.0 b.1 b.2.0)
one_slot ii operations placed op start (Some s) None a b = absurd (b s.0 s.1 a.0 a.1 a.2.0)
one_slot ii operations placed op start (Some s) (Some t) a b =
    let time : s.0 ≡ t.0 = level s.0 t.0 (λ less. b.3 s.0 s.1 a.0 less a.2.0) (λ more. a.3 t.0 t.1 b.0 more b.2.0) in
    let free : IsFree ii operations placed op t.0 s.1 = subst (λ k. IsFree ii operations placed op k s.1) time a.2.0 in
    let choice : s.1 ≡ t.1 = level s.1 t.1 (λ less. b.2.1 s.1 less free)
    (λ more. a.2.1 t.1 more (subst (λ k. IsFree ii operations placed op k t.1) (sym time) b.2.0)) in
    ap (λ k. let x : ℕ × ℕ = (k, s.1) in Some x) time ∙ ap (λ k. let x : ℕ × ℕ = (t.0, k) in Some x) choice

pub one_forced : (problem : ProblemData) (ii : ℕ) (state : State) (p earliest : ℕ) (one other : Placement)
    → IsForced problem ii state p earliest one → IsForced problem ii state p earliest other → one ≡ other
one_forced problem ii state p earliest one other a b =
    let time : one.time ≡ other.time = a.time ∙ sym b.time in
    let choice : one.alternative ≡ other.alternative = one_sound ii _ one.alternative other.alternative a.choice b.choice in
    ap (λ k. let x : Placement = record { time = k; alternative = one.alternative } in x) time
    ∙ ap (λ k. let x : Placement = record { time = other.time; alternative = k } in x) choice

one_chosen : (problem : ProblemData) (ii : ℕ) (state : State) (p earliest : ℕ) (one other : Placement) (slot : Option (ℕ × ℕ))
    → MatchOption slot (IsForced problem ii state p earliest one) (λ free. one ≡ record { time = free.0; alternative = free.1 })
    → MatchOption slot (IsForced problem ii state p earliest other) (λ free. other ≡ record { time = free.0; alternative = free.1 }) → one ≡ other
one_chosen problem ii state p earliest one other None a b = one_forced problem ii state p earliest one other a b
one_chosen problem ii state p earliest one other (Some free) a b = a ∙ sym b

pub one_place : (problem : ProblemData) (ii : ℕ) (state : State) (p : ℕ) (one other : Placement)
    → IsPlacement problem ii state p one → IsPlacement problem ii state p other → one ≡ other
one_place problem ii state p one other a b =
    let same : a.earliest ≡ b.earliest = one_earliest problem ii state p a.earliest b.earliest a.is_earliest b.is_earliest in
    let slot : IsFirstSlot ii problem.operations state.placed p b.earliest a.slot = subst (λ e. IsFirstSlot ii problem.operations state.placed p e a.slot) same a.is_slot in
    let found : a.slot ≡ b.slot = one_slot ii problem.operations state.placed p b.earliest a.slot b.slot slot b.is_slot in
    let Chosen : ℕ → Option (ℕ × ℕ) → Type 0 = λ e s. MatchOption s (IsForced problem ii state p e one) (λ free. one ≡ record { time = free.0; alternative = free.1 }) in
    let chosen : Chosen b.earliest b.slot = subst (λ s. Chosen b.earliest s) found (subst (λ e. Chosen e a.slot) same a.chosen) in
    one_chosen problem ii state p b.earliest one other b.slot chosen b.chosen

-- ---- one next state
same_or_not : (one other : Option Placement) → (one ≡ other) ⊎ (one ≡ other → ⊥)
same_or_not None None = inl refl
same_or_not None (Some x) = inr (λ e. none-some x e)
same_or_not (Some x) None = inr (λ e. none-some x (sym e))
same_or_not (Some x) (Some y) = elim (cases_eq x.time y.time) [
  | inr apart ↦ inr (λ e. apart (ap (λ (p : Placement). p.time) (same_Some x y e)))
  | inl time ↦ elim (cases_eq x.alternative y.alternative) [
    | inr apart ↦ inr (λ e. apart (ap (λ (p : Placement). p.alternative) (same_Some x y e)))
    | inl choice ↦ inl (
        ap (λ k. let p : Placement = record { time = k; alternative = x.alternative } in Some p) time
        ∙ ap (λ k. let p : Placement = record { time = y.time; alternative = k } in Some p) choice)
  ]
]

-- lists of placements are one where they have each operation's
pub same_placements : (one other : Placements) → length one ≡ length other → ((q : ℕ) → placement_of one q ≡ placement_of other q) → one ≡ other
same_placements one other long each =
    let none : Option Placement = None in
    ext_get_or none one other long
    (λ q below.
    sym (ap option_flatten (slice_get-get_or one q none below)) ∙ each q
    ∙ ap option_flatten (slice_get-get_or other q none (let within : q < length other = omega arith in within)))

module _ (problem : ProblemData) (ii : ℕ) (heights others : List ℕ) (agree : Agree (length problem.operations) heights others) (state : State) where
  one_placed : (p : ℕ) (at : Placement) (next again : State)
      → placement_of next.placed p ≡ Some at → ((q : ℕ) → IsEvicted problem ii state p at q → placement_of next.placed q ≡ None)
      → ((q : ℕ) → q ≢ p → (IsEvicted problem ii state p at q → ⊥) → placement_of next.placed q ≡ placement_of state.placed q)
      → placement_of again.placed p ≡ Some at → ((q : ℕ) → IsEvicted problem ii state p at q → placement_of again.placed q ≡ None)
      → ((q : ℕ) → q ≢ p → (IsEvicted problem ii state p at q → ⊥) → placement_of again.placed q ≡ placement_of state.placed q)
      → (q : ℕ) → placement_of next.placed q ≡ placement_of again.placed q
  one_placed p at next again placed evicted kept placed' evicted' kept' q = elim (cases_eq q p) [
    | inl same ↦ subst (λ k. placement_of next.placed k ≡ placement_of again.placed k) (sym same) (placed ∙ sym placed')
    | inr other ↦ elim (same_or_not (placement_of next.placed q) (placement_of again.placed q)) [
      | inl same ↦ same
      | inr differ ↦
          let not_evicted : IsEvicted problem ii state p at q → ⊥ = λ e. differ (evicted q e ∙ sym (evicted' q e)) in
          absurd (differ (kept q other not_evicted ∙ sym (kept' q other not_evicted)))
    ]
  ]

  pub one_step : (next again : State) → IsStep problem ii heights state next → IsStep problem ii others state again → next ≡ again
  one_step next again a b =
      let same : a.p ≡ b.p = one_next problem heights others state a.p b.p agree a.is_next b.is_next in
      let place : IsPlacement problem ii state b.p a.at = subst (λ k. IsPlacement problem ii state k a.at) same a.is_place in
      let at : a.at ≡ b.at = one_place problem ii state b.p a.at b.at place b.is_place in
      let Does : ℕ → Placement → Type 0 = λ p at.
      (placement_of next.placed p ≡ Some at) × ((q : ℕ) → IsEvicted problem ii state p at q → placement_of next.placed q ≡ None)
      × ((q : ℕ) → q ≢ p → (IsEvicted problem ii state p at q → ⊥) → placement_of next.placed q ≡ placement_of state.placed q)
      × (next.previous ≡ set state.previous p (Some at.time)) in
      let does : Does b.p b.at = subst (λ k. Does b.p k) at (subst (λ k. Does k a.at) same (a.placed, a.evicted, a.kept, a.remembered)) in
      let placed : next.placed ≡ again.placed = same_placements next.placed again.placed (a.whole ∙ sym b.whole)
      (one_placed b.p b.at next again does.0 does.1 does.2 b.placed b.evicted b.kept) in
      let previous : next.previous ≡ again.previous = does.3 ∙ sym b.remembered in
      ap (λ k. let s : State = record { placed = k; previous = next.previous } in s) placed
      ∙ ap (λ k. let s : State = record { placed = again.placed; previous = k } in s) previous

-- ---- one end
module _ (problem : ProblemData) (ii : ℕ) (heights others : List ℕ) (agree : Agree (length problem.operations) heights others) where
  pub one_state : (steps : ℕ) (state again : State) → LeadsTo problem ii heights steps state → LeadsTo problem ii others steps again → state ≡ again
  one_state zero state again a b = a ∙ sym b
  one_state (suc steps) state again a b =
      let before : a.0 ≡ b.0 = one_state steps a.0 b.0 a.1 b.1 in
      one_step problem ii heights others agree b.0 state again (subst (λ s. IsStep problem ii heights s state) before a.2) b.2

  -- a state on the way, and that a step leads on from it
  pub passes : (fewer steps : ℕ) (state : State) → fewer < steps → LeadsTo problem ii others steps state
      → (before : State) × LeadsTo problem ii others fewer before × (next : State) × IsStep problem ii others before next
  passes fewer zero state less a = absurd (omega arith)
  passes fewer (suc steps) state less a = elim (cases_eq fewer steps) [
    | inl same ↦ (a.0, subst (λ k. LeadsTo problem ii others k a.0) (sym same) a.1, state, a.2)
    | inr other ↦ passes fewer steps a.0 (omega arith) a.1
  ]

  -- a state that no step leads on from ends at no fewer steps
  pub no_fewer : (fewer steps : ℕ) (state again : State) → LeadsTo problem ii heights fewer state → LeadsTo problem ii others steps again
      → ((q : ℕ) → IsUnplaced problem state q → ⊥) → fewer < steps → ⊥
  no_fewer fewer steps state again a b all less =
      let p = passes fewer steps again less b in
      let same : state ≡ p.0 = one_state fewer state p.0 a p.1 in
      all p.3.p (subst (λ s. IsUnplaced problem s p.3.p) (sym same) p.3.is_next.is_unplaced)

pub heights_agree : (problem : ProblemData) (ii : ℕ) (heights others : List ℕ) → IsProblem problem
    → AreHeights problem.graph ii heights → AreHeights problem.graph ii others → Agree (length problem.operations) heights others
heights_agree problem ii heights others is a b = λ q below.
    let within : q < length problem.graph.latencies = omega (arith, is.each_latency) in
    one_height problem.graph.edges problem.graph.latencies ii q (slice_index heights q) (slice_index others q) (a q within) (b q within)

no_less : (problem : ProblemData) (ii budget : ℕ) (state again : State) → IsProblem problem
    → (a : Stops problem ii budget state) (b : Stops problem ii budget again) → a.steps < b.steps → ⊥
no_less problem ii budget state again is a b less =
    let within : b.steps ≤ budget = b.within in
    elim a.done [
      | inl all ↦ absurd (omega arith)
      | inr none ↦ no_fewer problem ii a.heights b.heights (heights_agree problem ii a.heights b.heights is a.have_heights b.have_heights)
          a.steps b.steps state again a.leads b.leads none less
    ]

pub one_end : (problem : ProblemData) (ii budget : ℕ) (state again : State) → IsProblem problem → Stops problem ii budget state → Stops problem ii budget again → state ≡ again
one_end problem ii budget state again is a b =
    let steps : a.steps ≡ b.steps = level a.steps b.steps (no_less problem ii budget state again is a b) (no_less problem ii budget again state is b a) in
    one_state problem ii a.heights b.heights (heights_agree problem ii a.heights b.heights is a.have_heights b.have_heights)
    b.steps state again (subst (λ k. LeadsTo problem ii a.heights k state) steps a.leads) b.leads

-- ---- one pair of lists, and one answer
module _ (problem : ProblemData) (ii budget : ℕ) (is : IsProblem problem) where
  pub one_lists : (times others choices picks : List ℕ) → EndsPlaced problem ii budget times choices → EndsPlaced problem ii budget others picks
      → (times ≡ others) × (choices ≡ picks)
  one_lists times others choices picks a b =
      let same : a.state ≡ b.state = one_end problem ii budget a.state b.state is a.stops b.stops in
      let all : IsAllPlaced problem b.state times choices = subst (λ s. IsAllPlaced problem s times choices) same a.has_all in
      let each : (op : ℕ) → op < length problem.operations
      → ◌≡◌ {A = Placement} (record { time = slice_index times op; alternative = slice_index choices op }) (record { time = slice_index others op; alternative = slice_index picks op })
      = λ op below. same_Some _ _ (sym (all.each op below) ∙ b.has_all.each op below) in (
        ext_get_or 0 times others (all.each_time ∙ sym b.has_all.each_time)
            (λ op below. ap (λ (p : Placement). p.time) (each op (let h : op < length problem.operations = omega (arith, all.each_time) in h))),
        ext_get_or 0 choices picks (all.each_choice ∙ sym b.has_all.each_choice)
            (λ op below. ap (λ (p : Placement). p.alternative) (each op (let h : op < length problem.operations = omega (arith, all.each_choice) in h))),
      )

  not_both : (times choices : List ℕ) → EndsUnplaced problem ii budget → EndsPlaced problem ii budget times choices → ⊥
  not_both times choices a b =
      let same : a.state ≡ b.state = one_end problem ii budget a.state b.state is a.stops b.stops in
      let u : IsUnplaced problem b.state a.op = subst (λ s. IsUnplaced problem s a.op) same a.unplaced in
      none-some _ (sym u.unplaced ∙ b.has_all.each a.op u.there)

  not_late : (schedule : ScheduleData) → EndsLate problem ii budget → EndsPlaced problem ii budget schedule.times schedule.choices
      → schedule.ii ≡ ii → IsSchedule schedule → ⊥
  not_late schedule a b interval lawful =
      let times : a.times ≡ schedule.times = (one_lists a.times schedule.times a.choices schedule.choices a.ends b).0 in
      let within : a.op < length schedule.times = omega (arith, a.there, b.has_all.each_time) in
      let few : slice_index schedule.times a.op / schedule.ii < 64 = lawful.stages a.op 0 within in
      let P : List ℕ → ℕ → Type 0 = λ ts k. slice_index ts a.op / k < 64 in
      let few' : slice_index a.times a.op / ii < 64 = subst (λ ts. P ts ii) (sym times) (subst (P schedule.times) interval few) in
      let late : 64 ≤ slice_index a.times a.op / ii = a.late in
      omega arith

  same_schedules : (one other : ScheduleData) → EndsPlaced problem ii budget one.times one.choices → one.problem ≡ problem → one.ii ≡ ii
      → EndsPlaced problem ii budget other.times other.choices → other.problem ≡ problem → other.ii ≡ ii → one ≡ other
  same_schedules one other a p i b p' i' =
      let lists = one_lists one.times other.times one.choices other.choices a b in
      ap (λ k. let s : ScheduleData = record { problem = k; ii = one.ii; times = one.times; choices = one.choices } in s) (p ∙ sym p')
      ∙ ap (λ k. let s : ScheduleData = record { problem = other.problem; ii = k; times = one.times; choices = one.choices } in s) (i ∙ sym i')
      ∙ ap (λ k. let s : ScheduleData = record { problem = other.problem; ii = other.ii; times = k; choices = one.choices } in s) lists.0
      ∙ ap (λ k. let s : ScheduleData = record { problem = other.problem; ii = other.ii; times = other.times; choices = k } in s) lists.1

  answers : (one other : Try) → AnswersAttempt problem ii budget one → AnswersAttempt problem ii budget other → one ≡ other
  answers (Failed Table) (Failed Table) a b = refl
  answers (Failed Table) (Failed Budget) a b = absurd (b.0 a)
  answers (Failed Table) (Failed Stages) a b = absurd (b.0 a)
  answers (Failed Table) (Placed t) a b = absurd (b.0 a)
  answers (Failed Budget) (Failed Table) a b = absurd (a.0 b)
  answers (Failed Budget) (Failed Budget) a b = refl
  answers (Failed Budget) (Failed Stages) a b = absurd (not_both b.1.times b.1.choices a.1 b.1.ends)
  answers (Failed Budget) (Placed t) a b = absurd (not_both t.times t.choices a.1 b.1)
  answers (Failed Stages) (Failed Table) a b = absurd (a.0 b)
  answers (Failed Stages) (Failed Budget) a b = absurd (not_both a.1.times a.1.choices b.1 a.1.ends)
  answers (Failed Stages) (Failed Stages) a b = refl
  answers (Failed Stages) (Placed t) a b = absurd (not_late t a.1 b.1 b.3 b.4)
  answers (Placed s) (Failed Table) a b = absurd (a.0 b)
  answers (Placed s) (Failed Budget) a b = absurd (not_both s.times s.choices b.1 a.1)
  answers (Placed s) (Failed Stages) a b = absurd (not_late s b.1 a.1 a.3 a.4)
  answers (Placed s) (Placed t) a b = ap (λ x. Placed x) (same_schedules s t a.1 a.2 a.3 b.1 b.2 b.3)

pub one-answer : OneAnswer
one-answer problem ii budget one other is a b = answers problem ii budget is one other a b
