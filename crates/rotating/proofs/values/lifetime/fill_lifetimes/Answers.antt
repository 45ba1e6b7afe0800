use Rattle.std.proofs.Common.{◌≡◌, ◌<◌, max, subst, ◌++◌, [], length, map, take, drop, sym, ap, ◌∙◌, arith, append-nil}
use Rattle.loop_data.specs.Loops.{LoopData}
use Rattle.loop_schedules.specs.Problems.{ProblemData}
use Rattle.std.specs.Prelude.{if◌then◌else◌}
use Rattle.unit_bound.specs.Units.{greatest_of}
use Rattle.rotating.proofs.emitted.Ranks.{zero-at}
use Rattle.overlap.specs.Lifetimes.{is_out, read_at, uses_of, values_from, lifetime_of, lifetimes_of}
use Rattle.rotating.proofs.lives.Greatest.{drop-none}
use Rattle.rotating.proofs.values.lifetime.fill_lifetimes.Goals as goal

pub returns-clause-exact : goal.returns-clause-exact
unfolding lifetimes_of
returns-clause-exact c =
    let loop = c.args.schedule.now.problem.loop in
    let same = c.statements-statements.ensures.value ∙ ap (λ (l : LoopData). l.statements) (c.innermost.ensures.value ∙ ap (λ (p : ProblemData). p.loop) c.prepared.ensures.value) in
    let t = c.loop-op-test.false in
    let l = ap length same in
    let none : drop c.loop-op.op loop.statements ≡ [] = drop-none loop.statements c.loop-op.op (omega arith) in
    sym (append-nil (take c.loop-op.count c.loop-op.lives))
    ∙ ap (λ xs. take c.loop-op.count c.loop-op.lives ++ map (lifetime_of c.args.schedule.now) (values_from c.loop-op.op xs)) (sym none)
    ∙ c.loop-op.invariant.1

pub fill_uses-requires-clause-zeros_carried : goal.fill_uses-requires-clause-zeros_carried
fill_uses-requires-clause-zeros_carried c = zero-at 256

pub fill_uses-requires-clause-zeros_lasts : goal.fill_uses-requires-clause-zeros_lasts
fill_uses-requires-clause-zeros_lasts c = zero-at 256

pub lifetime_of-requires-clause-farthest : goal.lifetime_of-requires-clause-farthest
lifetime_of-requires-clause-farthest c =
    let loop = c.args.schedule.now.problem.loop in
    let same = c.statements-statements.ensures.value ∙ ap (λ (l : LoopData). l.statements) (c.innermost.ensures.value ∙ ap (λ (p : ProblemData). p.loop) c.prepared.ensures.value) in
    let t : c.loop-op.op < length c.statements-statements.result.now = c.loop-op-test.true in
    c.fill_uses.ensures.carried.each c.loop-op.op (subst (λ xs. c.loop-op.op < length xs) same t)

pub lifetime_of-requires-clause-last : goal.lifetime_of-requires-clause-last
lifetime_of-requires-clause-last c =
    let s = c.args.schedule.now in
    let v = c.loop-op.op in
    let t : c.loop-op.op < length c.statements-statements.result.now = c.loop-op-test.true in
    let same = ap length c.statements-statements.ensures.value in
    let few = c.statements-statements.ensures.well_formed.statements_few in
    c.fill_uses.ensures.lasts v (omega arith)
    ∙ ap (λ n. max (greatest_of (map (read_at s) (uses_of s.problem.loop v))) (if is_out s.problem.loop v then n else 0)) c.end_of-end.ensures
