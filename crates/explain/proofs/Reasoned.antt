-- The operations that are named where an interval failed.
use Rattle.std.proofs.Common.{◌≡◌, ℕ, ◌+◌, ◌<◌, List, length, map, get_or, Some, sym, ap, ◌∙◌, subst, arith}
use Rattle.std.specs.Prelude.{is_none, option_map, slice_get}
use Rattle.std.specs.List.{All, range_with_len}
use Rattle.std.proofs.lemmas.List.{length-map}
use Rattle.std.proofs.lemmas.List.Elements.{All-filter, Contains-get_or}
use Rattle.std.proofs.lemmas.List.FromFn.{get_or-range_with_len, length-range_with_len}
use Rattle.std.proofs.lemmas.Option.{slice_get-get_or, slice_get-map, slice_get_within}
use Rattle.mrt.specs.Placements.{placement_of}
use Rattle.modulo.specs.Culprits.{EndsWithout}
use Rattle.loop_schedules.specs.Problems.{ProblemData, IsProblem, budget_of, without_loop}
use Rattle.loop_schedules.specs.Schedules.{ScheduleData}
use Rattle.registers.specs.declared.lifetime.Lifetime.{Lifetime}
use Rattle.overlap.specs.Lifetimes.{lifetime_of, lifetimes_of, values_of}
use Rattle.overlap.proofs.in_registers.Preloaded.{value-back}
use Rattle.told_intervals.specs.Reasons.{LacksFor}

-- ---- the value that has no register
life-there : (s : ScheduleData) (place : ℕ) (life : Lifetime) → slice_get (lifetimes_of s) place ≡ Some life → life.operation < length s.problem.loop.statements
unfolding lifetimes_of
life-there s place life e =
    let values : List ℕ = values_of s.problem.loop in
    let long : place < length (map (lifetime_of s) values) = slice_get_within (map (lifetime_of s) values) place life e in
    let within : place < length values = omega (arith, length-map values (lifetime_of s)) in
    let value : ℕ = get_or values place 0 in
    let at : slice_get (map (lifetime_of s) values) place ≡ Some (lifetime_of s value)
    = slice_get-map (lifetime_of s) values place ∙ ap (option_map (lifetime_of s)) (slice_get-get_or values place 0 within) in
    let both : Some life ≡ Some (lifetime_of s value) = sym e ∙ at in
    let same : life ≡ lifetime_of s value = cc in
    let op : life.operation ≡ value = ap (λ (l : Lifetime). l.operation) same in
    let back = value-back 0 s.problem.loop.statements value (Contains-get_or values place 0 within) in
    let l : back.0 < length s.problem.loop.statements = slice_get_within s.problem.loop.statements back.0 back.1 back.2 in
    let z : value ≡ 0 + back.0 = back.3 in
    omega arith

pub value-there : (p : ProblemData) (ii : ℕ) (life : Lifetime) (schedule : ScheduleData) → LacksFor p ii life schedule → life.operation < length p.loop.statements
value-there p ii life schedule lacks =
    subst (λ (q : ProblemData). life.operation < length q.loop.statements) lacks.is_schedule.2 (life-there schedule lacks.none.place life lacks.none.is_life)

-- ---- the operations that an attempt does not place
pub op-there : (p : ProblemData) (op : ℕ) → IsProblem p → op < length p.operations → op < length p.loop.statements
op-there p op is there = omega (arith, is.each_operation)

pub ops-there : (p : ProblemData) (ii : ℕ) (ops : List ℕ) → IsProblem p → EndsWithout (without_loop p) ii (budget_of p) ops → All (λ op. op < length p.loop.statements) ops
ops-there p ii ops is ends =
    let count : ℕ = length p.operations in
    let below : All (λ op. op < length p.loop.statements) (range_with_len 0 count)
    = λ k d within. (
    let l : k < count = omega (arith, length-range_with_len 0 count) in
    let e = get_or-range_with_len 0 count k d l in
    omega (arith, is.each_operation)) in
    subst (All (λ op. op < length p.loop.statements)) (sym ends.are)
    (All-filter (λ op. is_none (placement_of ends.state.placed op)) (λ op. op < length p.loop.statements) (range_with_len 0 count) below)
