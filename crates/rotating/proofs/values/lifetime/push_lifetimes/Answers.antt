use Rattle.std.proofs.Common.{◌≡◌, ◌<◌, ◌+◌, ℕ, max, subst, ◌++◌, ◌∷◌, [], List, length, get_or, map, drop, true, false, sym, ap, ◌∙◌, arith, append-nil, append_assoc}
use Rattle.loop_data.specs.Loops.{LoopData}
use Rattle.loop_data.specs.declared.language.statement.Statement.{Statement}
use Rattle.loop_schedules.specs.Problems.{ProblemData}
use Rattle.std.specs.Prelude.{is_some, if◌then◌else◌}
use Rattle.unit_bound.specs.Units.{greatest_of}
use Rattle.rotating.proofs.emitted.Ranks.{zero-at, values-yes, values-no}
use Rattle.registers.specs.declared.lifetime.Lifetime.{Lifetime}
use Rattle.overlap.specs.Lifetimes.{is_out, read_at, uses_of, values_from, lifetime_of, lifetimes_of}
use Rattle.rotating.proofs.lives.Greatest.{drop-none}
use Rattle.rotating.proofs.values.lifetime.push_lifetimes.Goals.{then-is_some, else-is_some}
use Rattle.rotating.proofs.values.lifetime.push_lifetimes.Goals as goal

pub returns : goal.returns
unfolding lifetimes_of
returns c =
    let loop = c.args.schedule.now.problem.loop in
    let same = c.statements-statements.ensures.value ∙ ap (λ (l : LoopData). l.statements) (c.innermost.ensures.value ∙ ap (λ (p : ProblemData). p.loop) c.prepared.ensures.value) in
    let t = c.loop-value-test.false in
    let l = ap length same in
    let none : drop c.loop-value.value loop.statements ≡ [] = drop-none loop.statements c.loop-value.value (omega arith) in
    sym (append-nil c.loop-value.list.items)
    ∙ ap (λ xs. c.loop-value.list.items ++ map (lifetime_of c.args.schedule.now) (values_from c.loop-value.value xs)) (sym none)
    ∙ c.loop-value.invariant.2

pub fill_uses-requires-clause-zeros_carried : goal.fill_uses-requires-clause-zeros_carried
fill_uses-requires-clause-zeros_carried c = zero-at 256

pub fill_uses-requires-clause-zeros_lasts : goal.fill_uses-requires-clause-zeros_lasts
fill_uses-requires-clause-zeros_lasts c = zero-at 256

pub lifetime_of-requires-clause-farthest : goal.lifetime_of-requires-clause-farthest
lifetime_of-requires-clause-farthest c =
    let loop = c.args.schedule.now.problem.loop in
    let same = c.statements-statements.ensures.value ∙ ap (λ (l : LoopData). l.statements) (c.innermost.ensures.value ∙ ap (λ (p : ProblemData). p.loop) c.prepared.ensures.value) in
    let t : c.loop-value.value < length c.statements-statements.result.now = c.loop-value-test.true in
    c.fill_uses.ensures.carried.each c.loop-value.value (subst (λ xs. c.loop-value.value < length xs) same t)

pub lifetime_of-requires-clause-last : goal.lifetime_of-requires-clause-last
lifetime_of-requires-clause-last c =
    let s = c.args.schedule.now in
    let v = c.loop-value.value in
    let t : c.loop-value.value < length c.statements-statements.result.now = c.loop-value-test.true in
    let same = ap length c.statements-statements.ensures.value in
    let few = c.statements-statements.ensures.well_formed.statements_few in
    c.fill_uses.ensures.lasts v (omega arith)
    ∙ ap (λ n. max (greatest_of (map (read_at s) (uses_of s.problem.loop v))) (if is_out s.problem.loop v then n else 0)) c.end_of.ensures

pub loop-value-preserved : goal.loop-value-preserved
loop-value-preserved c =
    let schedule = c.args.schedule.now in
    let loop = schedule.problem.loop in
    let q = c.loop-value.value in
    let s : Statement = c.index-statements-value.result in
    let same : c.statements-statements.result.now ≡ loop.statements
    = c.statements-statements.ensures.value ∙ ap (λ (l : LoopData). l.statements) (c.innermost.ensures.value ∙ ap (λ (p : ProblemData). p.loop) c.prepared.ensures.value) in
    let t : q < length c.statements-statements.result.now = c.loop-value-test.true in
    let l : q < length loop.statements = subst (λ xs. q < length xs) same t in
    let at : s ≡ get_or loop.statements q s = subst (λ xs. s ≡ get_or xs q s) same c.index-statements-value.is in
    let i = c.loop-value.invariant in
    let rest : List ℕ = values_from (q + 1) (drop (q + 1) loop.statements) in
    elim c.if-is_some.branch [
      | then-is_some w ↦
          let named : is_some s.name ≡ true = subst (λ (x : Statement). is_some x.name ≡ true) (sym c.index-statements-value.is) (sym c.is_some.ensures ∙ w.if-is_some.true) in
          let v = values-yes loop.statements q s l at named in
          let r = w.list-is in
          let n = w.push_reserved.ensures.len in
          let k = w.push_reserved.ensures.capacity in (
            rw r (omega arith),
            rw r (omega arith),
            rw r (ap (λ xs. xs ++ map (lifetime_of schedule) rest) w.push_reserved.ensures.items
                ∙ append_assoc c.loop-value.list.items (w.lifetime_of.result ∷ []) (map (lifetime_of schedule) rest)
                ∙ ap (λ (life : Lifetime). c.loop-value.list.items ++ life ∷ map (lifetime_of schedule) rest) w.lifetime_of.ensures
                ∙ ap (λ vs. c.loop-value.list.items ++ map (lifetime_of schedule) vs) (sym v) ∙ i.2),
          )
      | else-is_some w ↦
          let unnamed : is_some s.name ≡ false = subst (λ (x : Statement). is_some x.name ≡ false) (sym c.index-statements-value.is) (sym c.is_some.ensures ∙ w.if-is_some.false) in
          let v = values-no loop.statements q s l at unnamed in
          let r = w.list-is in (
            rw r (omega arith),
            rw r i.1,
            rw r (ap (λ vs. c.loop-value.list.items ++ map (lifetime_of schedule) vs) (sym v) ∙ i.2),
          )
    ]
