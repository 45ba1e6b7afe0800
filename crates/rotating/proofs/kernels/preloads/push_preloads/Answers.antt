use Rattle.std.proofs.Common.{◌≡◌, ◌+◌, ◌<◌, ℕ, List, ◌++◌, length, get_or, drop, true, false, sym, ap, ◌∙◌, subst, arith, append_assoc}
use Rattle.std.specs.Prelude.{is_some, flat_map}
use Rattle.loop_data.specs.declared.language.statement.Statement.{Statement}
use Rattle.loop_data.specs.Loops.{LoopData}
use Rattle.loop_schedules.specs.Problems.{ProblemData}
use Rattle.kernel.specs.declared.kernels.parts.Preload.{Preload}
use Rattle.overlap.specs.Emission.{preloads_from}
use Rattle.overlap.specs.Lifetimes.{carried, values_from}
use Rattle.rotating.specs.inner.Naming.{preload_count}
use Rattle.rotating.proofs.emitted.Ranks.{carried-few, values-yes, values-no}
use Rattle.rotating.proofs.kernels.preloads.push_preloads.Goals as goal
use Rattle.rotating.proofs.kernels.preloads.push_preloads.Goals.{then-is_some, else-is_some}

pub push_value-requires-clause-few : goal.push_value-requires-clause-few
push_value-requires-clause-few c =
    let loop = c.args.schedule.now.problem.loop in
    let q = c.loop-value.value in
    let same : c.statements-statements.result.now ≡ loop.statements
    = c.statements-statements.ensures.value ∙ ap (λ (l : LoopData). l.statements) (c.innermost.ensures.value ∙ ap (λ (p : ProblemData). p.loop) c.prepared.ensures.value) in
    let t : q < length c.statements-statements.result.now = c.loop-value-test.true in
    let l : q < length loop.statements = subst (λ xs. q < length xs) same t in
    let e = c.requires.carried.each q l in
    let f = carried-few loop c.prepared.ensures.well_formed.problem.loop q in
    omega arith

pub loop-value-preserved : goal.loop-value-preserved
loop-value-preserved c =
    let schedule = c.args.schedule.now in
    let allotment = c.args.allotment.now in
    let loop = schedule.problem.loop in
    let q = c.loop-value.value in
    let s : Statement = c.index-statements-value.result in
    let same : c.statements-statements.result.now ≡ loop.statements
    = c.statements-statements.ensures.value ∙ ap (λ (l : LoopData). l.statements) (c.innermost.ensures.value ∙ ap (λ (p : ProblemData). p.loop) c.prepared.ensures.value) in
    let t : q < length c.statements-statements.result.now = c.loop-value-test.true in
    let l : q < length loop.statements = subst (λ xs. q < length xs) same t in
    let at : s ≡ get_or loop.statements q s = subst (λ xs. s ≡ get_or xs q s) same c.index-statements-value.is in
    let f : ℕ → List Preload = λ v. preloads_from schedule allotment v 1 (carried loop v) in
    let rest : List ℕ = values_from (q + 1) (drop (q + 1) loop.statements) in
    let e = c.requires.carried.each q l in
    let i = c.loop-value.invariant in
    elim c.if-is_some.branch [
      | then-is_some w ↦
          let named : is_some s.name ≡ true = subst (λ (x : Statement). is_some x.name ≡ true) (sym c.index-statements-value.is) (sym c.is_some.ensures ∙ w.if-is_some.true) in
          let v = values-yes loop.statements q s l at named in
          let y = ap (preload_count loop) v in
          let r = w.list-is in
          let n = w.push_value.ensures.len in
          let k = w.push_value.ensures.capacity in (
            rw r (omega arith),
            rw r (ap (λ xs. xs ++ flat_map f rest) w.push_value.ensures.items ∙ append_assoc c.loop-value.list.items (preloads_from schedule allotment q 1 _) (flat_map f rest)
                ∙ ap (λ m. c.loop-value.list.items ++ (preloads_from schedule allotment q 1 m ++ flat_map f rest)) e
                ∙ ap (λ vs. c.loop-value.list.items ++ flat_map f vs) (sym v) ∙ i.1),
          )
      | else-is_some w ↦
          let unnamed : is_some s.name ≡ false = subst (λ (x : Statement). is_some x.name ≡ false) (sym c.index-statements-value.is) (sym c.is_some.ensures ∙ w.if-is_some.false) in
          let v = values-no loop.statements q s l at unnamed in
          let y = ap (preload_count loop) v in
          let r = w.list-is in (
            rw r (omega arith),
            rw r (ap (λ vs. c.loop-value.list.items ++ flat_map f vs) (sym v) ∙ i.1),
          )
    ]
