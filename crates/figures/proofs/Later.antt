-- What is kept when one operation is issued later.
use Rattle.std.proofs.Common.{◌≡◌, ◌≢◌, ℕ, zero, suc, ◌+◌, ◌*◌, ◌<◌, ◌≤◌, min, pos, ◌+ℤ◌, ◌≤ℤ◌, Bool, eqb, List, [], ◌∷◌, ◌++◌, length, get_or, filter, map, set, zip, ap, ◌∙◌, subst, inl, inr, arith, length-set, get_or-set_same, get_or-set_other, eq-eqb}
use Rattle.std.specs.Prelude.{slice_index}
use Rattle.std.specs.List.{All, Contains}
use Rattle.std.proofs.lemmas.Bool.{cases_Bool, cases_eq, cond-true, cond-false, eqb-true}
use Rattle.std.proofs.lemmas.Int.{ints}
use Rattle.std.proofs.lemmas.List.Elements.{All-nil, All-cons, All-head, All-tail, All-push, All-weaker, All-same, All-filter, All-contains, All-contains_itself, filter_passes}
use Rattle.edges.specs.Edges.{EdgeData}
use Rattle.edges.specs.Schedules.{KeepsEdge}
use Rattle.unit_bound.specs.Units.{greatest_of}
use Rattle.loop_schedules.specs.Schedules.{ScheduleData, IsSchedule}
use Rattle.overlap.specs.Lifetimes.{last_landing}
use Rattle.figures.specs.Slacks.{MayBeLater, IsSlack}

-- where the edge goes to another operation, it lets the operation be so many cycles later
abbrev pub Allows : ScheduleData → ℕ → ℕ → EdgeData → Type 0
Allows schedule op more e = e.to ≢ op → (pos (slice_index schedule.times op + more) +ℤ e.delay) ≤ℤ pos (slice_index schedule.times e.to + schedule.ii * e.distance)

-- with these edges from it alone, the operation may be so many cycles later, and no more
pub record IsSlackBy (schedule : ScheduleData) (op : ℕ) (edges : List EdgeData) (slack : ℕ) : Type 0 where
  pub ends : slice_index schedule.times op + slack + slice_index schedule.problem.graph.latencies op ≤ last_landing schedule
  pub allows : All (Allows schedule op slack) edges
  pub greatest : (more : ℕ) → MayBeLater schedule op more → more ≤ slack

-- edges

keeps-one : (schedule : ScheduleData) (op more : ℕ) (e : EdgeData) → op < length schedule.times → KeepsEdge schedule.ii schedule.times e
    → (e.from ≡ op → Allows schedule op more e) → KeepsEdge schedule.ii (set schedule.times op (slice_index schedule.times op + more)) e
keeps-one schedule op more e within keeps allows =
    let times : List ℕ = schedule.times in
    let later : List ℕ = set times op (slice_index times op + more) in
    let here : slice_index later op ≡ slice_index times op + more = get_or-set_same times op (slice_index times op + more) 0 within in
    elim (cases_eq e.from op) [
      | inl is ↦
          let from : slice_index later e.from ≡ slice_index later op = ap (slice_index later) is in
          let before : slice_index times e.from ≡ slice_index times op = ap (slice_index times) is in
          elim (cases_eq e.to op) [
            | inl same ↦
                let to : slice_index later e.to ≡ slice_index later op = ap (slice_index later) same in
                let was : slice_index times e.to ≡ slice_index times op = ap (slice_index times) same in
                omega (arith, ints)
            | inr other ↦
                let to : slice_index later e.to ≡ slice_index times e.to = get_or-set_other times op e.to (slice_index times op + more) 0 other in
                let a = allows is other in
                omega (arith, ints)
          ]
      | inr left ↦
          let from : slice_index later e.from ≡ slice_index times e.from = get_or-set_other times op e.from (slice_index times op + more) 0 left in
          elim (cases_eq e.to op) [
            | inl same ↦
                let to : slice_index later e.to ≡ slice_index later op = ap (slice_index later) same in
                let was : slice_index times e.to ≡ slice_index times op = ap (slice_index times) same in
                omega (arith, ints)
            | inr other ↦
                let to : slice_index later e.to ≡ slice_index times e.to = get_or-set_other times op e.to (slice_index times op + more) 0 other in
                omega (arith, ints)
          ]
    ]

keeps-all : (schedule : ScheduleData) (op more : ℕ) → op < length schedule.times → (edges : List EdgeData) → All (KeepsEdge schedule.ii schedule.times) edges
    → All (Allows schedule op more) (filter (λ (e : EdgeData). eqb e.from op) edges) → All (KeepsEdge schedule.ii (set schedule.times op (slice_index schedule.times op + more))) edges
keeps-all schedule op more within [] keeps allows = All-nil (KeepsEdge schedule.ii (set schedule.times op (slice_index schedule.times op + more)))
keeps-all schedule op more within (e ∷ edges) keeps allows =
    let Now : EdgeData → Type 0 = KeepsEdge schedule.ii schedule.times in
    let Then : EdgeData → Type 0 = KeepsEdge schedule.ii (set schedule.times op (slice_index schedule.times op + more)) in
    let May : EdgeData → Type 0 = Allows schedule op more in
    let rest : List EdgeData = filter (λ (x : EdgeData). eqb x.from op) edges in
    elim (cases_Bool (eqb e.from op)) [
      | inl taken ↦
          let both : All May (e ∷ rest) = subst (All May) (cond-true (eqb e.from op) (e ∷ rest) rest taken) allows in
          All-cons Then e edges (keeps-one schedule op more e within (All-head Now e edges keeps) (λ is. All-head May e rest both))
          (keeps-all schedule op more within edges (All-tail Now e edges keeps) (All-tail May e rest both))
      | inr left ↦
          let later : All May rest = subst (All May) (cond-false (eqb e.from op) (e ∷ rest) rest left) allows in
          All-cons Then e edges (keeps-one schedule op more e within (All-head Now e edges keeps) (λ is. absurd (let taken = eq-eqb e.from op is in cc)))
          (keeps-all schedule op more within edges (All-tail Now e edges keeps) later)
    ]

-- landings

pub landing-at : (times latencies : List ℕ) (q : ℕ) → q < length times → q < length latencies
    → slice_index times q + slice_index latencies q ≤ greatest_of (map (λ (p : ℕ × ℕ). p.0 + p.1) (zip times latencies))
landing-at [] latencies q h k = absurd (omega arith)
landing-at (t ∷ times) [] q h k = absurd (omega arith)
landing-at (t ∷ times) (l ∷ latencies) zero h k = omega arith
landing-at (t ∷ times) (l ∷ latencies) (suc q) h k = let r = landing-at times latencies q (omega arith) (omega arith) in omega arith

landing-later : (times latencies : List ℕ) (q time n : ℕ) → q < length times → q < length latencies → time + slice_index latencies q ≤ n
    → greatest_of (map (λ (p : ℕ × ℕ). p.0 + p.1) (zip times latencies)) ≤ n → greatest_of (map (λ (p : ℕ × ℕ). p.0 + p.1) (zip (set times q time) latencies)) ≤ n
landing-later [] latencies q time n h k e g = absurd (omega arith)
landing-later (t ∷ times) [] q time n h k e g = absurd (omega arith)
landing-later (t ∷ times) (l ∷ latencies) zero time n h k e g = omega arith
landing-later (t ∷ times) (l ∷ latencies) (suc q) time n h k e g = let r = landing-later times latencies q time n (omega arith) (omega arith) e (omega arith) in omega arith

-- slacks

pub is-timed : (schedule : ScheduleData) → IsSchedule schedule → (op : ℕ) → op < length schedule.problem.operations → op < length schedule.times
is-timed schedule is op there = let e = is.lawful.plan.each_time in omega arith

pub is-latent : (schedule : ScheduleData) → IsSchedule schedule → (op : ℕ) → op < length schedule.problem.operations → op < length schedule.problem.graph.latencies
is-latent schedule is op there = let e = is.problem.is_problem.each_latency in omega arith

-- before the first edge
pub slack-init : (schedule : ScheduleData) → IsSchedule schedule → (op slack : ℕ) → op < length schedule.problem.operations
    → slice_index schedule.times op + slack + slice_index schedule.problem.graph.latencies op ≡ last_landing schedule → IsSlackBy schedule op [] slack
slack-init schedule is op slack there end =
    let timed = is-timed schedule is op there in
    let latent = is-latent schedule is op there in
    record {
      ends = omega arith;
      allows = All-nil (Allows schedule op slack);
      greatest = λ more may. (
          let later : List ℕ = set schedule.times op (slice_index schedule.times op + more) in
          let long : op < length later = let l = length-set schedule.times op (slice_index schedule.times op + more) in omega arith in
          let here : slice_index later op ≡ slice_index schedule.times op + more = get_or-set_same schedule.times op (slice_index schedule.times op + more) 0 timed in
          let lands = landing-at later schedule.problem.graph.latencies op long latent in
          let no = may.no_longer in
          omega arith);
    }

-- an edge that allows as many cycles, or more
pub slack-kept : (schedule : ScheduleData) (op : ℕ) (edges : List EdgeData) (e : EdgeData) (slack : ℕ) → IsSlackBy schedule op edges slack → Allows schedule op slack e → IsSlackBy schedule op (edges ++ e ∷ []) slack
slack-kept schedule op edges e slack by allows = record {
  ends = by.ends;
  allows = All-push (Allows schedule op slack) edges e by.allows allows;
  greatest = by.greatest;
}

-- an edge of the schedule that allows just so many
pub slack-lowered : (schedule : ScheduleData) (op : ℕ) (edges : List EdgeData) (e : EdgeData) (slack spare : ℕ) → op < length schedule.times
    → Contains schedule.problem.graph.edges e → e.from ≡ op → e.to ≢ op
    → (pos (slice_index schedule.times e.from + spare) +ℤ e.delay) ≡ pos (slice_index schedule.times e.to + schedule.ii * e.distance)
    → IsSlackBy schedule op edges slack → IsSlackBy schedule op (edges ++ e ∷ []) (min slack spare)
slack-lowered schedule op edges e slack spare timed there from to tight by =
    let times : List ℕ = schedule.times in
    let same : slice_index times e.from ≡ slice_index times op = ap (slice_index times) from in
    let was = by.ends in
    record {
      ends = omega arith;
      allows = All-push (Allows schedule op (min slack spare)) edges e
          (All-weaker (Allows schedule op slack) (Allows schedule op (min slack spare)) (λ x a other. let h = a other in omega (arith, ints)) edges by.allows)
          (λ other. omega (arith, ints));
      greatest = λ more may. (
          let later : List ℕ = set times op (slice_index times op + more) in
          let here : slice_index later e.from ≡ slice_index times op + more = ap (slice_index later) from ∙ get_or-set_same times op (slice_index times op + more) 0 timed in
          let beyond : slice_index later e.to ≡ slice_index times e.to = get_or-set_other times op e.to (slice_index times op + more) 0 to in
          let kept : KeepsEdge schedule.ii later e = All-contains (KeepsEdge schedule.ii later) schedule.problem.graph.edges e may.keeps there in
          let g = by.greatest more may in
          omega (arith, ints));
    }

-- after the last edge
pub slack-end : (schedule : ScheduleData) → IsSchedule schedule → (op slack : ℕ) → op < length schedule.problem.operations
    → IsSlackBy schedule op (filter (λ (e : EdgeData). eqb e.from op) schedule.problem.graph.edges) slack → IsSlack schedule op slack
slack-end schedule is op slack there by =
    let timed = is-timed schedule is op there in
    let latent = is-latent schedule is op there in
    record {
      may = record {
        keeps = keeps-all schedule op slack timed schedule.problem.graph.edges is.lawful.keeps_edges by.allows;
        no_longer = landing-later schedule.times schedule.problem.graph.latencies op (slice_index schedule.times op + slack) (last_landing schedule) timed latent by.ends (omega arith);
      };
      greatest = by.greatest;
    }

-- the edges that are gone through

pub record IsOut (schedule : ScheduleData) (op : ℕ) (e : EdgeData) : Type 0 where
  pub from : e.from ≡ op
  pub there : Contains schedule.problem.graph.edges e
  pub from_few : e.from < length schedule.problem.operations
  pub to_few : e.to < length schedule.problem.operations
  pub kept : KeepsEdge schedule.ii schedule.times e

pub all-out : (schedule : ScheduleData) → IsSchedule schedule → (op : ℕ) → (outgoing : List EdgeData) → outgoing ≡ filter (λ (e : EdgeData). eqb e.from op) schedule.problem.graph.edges
    → All (IsOut schedule op) outgoing
all-out schedule is op outgoing same =
    let edges : List EdgeData = schedule.problem.graph.edges in
    let test : EdgeData → Bool = λ (e : EdgeData). eqb e.from op in
    let latencies : List ℕ = schedule.problem.graph.latencies in
    let each = is.problem.is_problem.each_latency in
    All-same (IsOut schedule op) outgoing (filter test edges) same (λ k d lt.
    let e : EdgeData = get_or (filter test edges) k d in
    let there : Contains edges e = All-filter test (Contains edges) edges (All-contains_itself edges) k d lt in
    let ends : (e.from < length latencies) × (e.to < length latencies)
    = All-contains (λ (x : EdgeData). (x.from < length latencies) × (x.to < length latencies)) edges e is.problem.is_problem.graph.ends there in
    record {
      from = eqb-true e.from op (filter_passes test edges k d lt);
      there = there;
      from_few = omega (arith, ends.0);
      to_few = omega (arith, ends.1);
      kept = All-contains (KeepsEdge schedule.ii schedule.times) edges e is.lawful.keeps_edges there;
    })
