use Rattle.std.proofs.Common.{◌≡◌, ◌<◌, ◌≤◌, length, get_or, sym, ap, ◌∙◌, subst, arith, true, false}
use Rattle.std.specs.Prelude.{slice_index, is_some}
use Rattle.loop_data.specs.declared.language.statement.Statement.{Statement}
use Rattle.overlap.specs.Allotments.{allotted_number}
use Rattle.overlap.specs.Lifetimes.{rank_of}
use Rattle.loop_data.specs.Loops.{LoopData}
use Rattle.loop_schedules.specs.Problems.{ProblemData}
use Rattle.rotating.proofs.emitted.Ranks.{rank-yes, rank-no, past-zero, table-more}
use Rattle.rotating.proofs.kernels.naming.fill_numbers.Goals as goal
use Rattle.rotating.proofs.kernels.naming.fill_numbers.Goals.{then-rank-numbers, else-rank-numbers, then-is_some, else-is_some}

pub loop-q-preserved : goal.loop-q-preserved
loop-q-preserved c =
    let loop = c.args.schedule.now.problem.loop in
    let s : Statement = c.index-statements-q.result in
    let same : c.statements-statements.result.now ≡ loop.statements = c.statements-statements.ensures.value ∙ ap (λ (l : LoopData). l.statements) (c.innermost.ensures.value ∙ ap (λ (p : ProblemData). p.loop) c.prepared.ensures.value) in
    let ns = c.numbers-numbers.ensures.value in
    let t : c.loop-q.q < length c.statements-statements.result.now = c.loop-q-test.true in
    let l : c.loop-q.q < length loop.statements = subst (λ xs. c.loop-q.q < length xs) same t in
    let at : s ≡ get_or loop.statements c.loop-q.q s = subst (λ xs. s ≡ get_or xs c.loop-q.q s) same c.index-statements-q.is in
    let few = c.statements-statements.ensures.well_formed.statements_few in
    let long = c.requires in
    let auto = c.loop-q.auto.table in
    let low : c.loop-q.rank ≤ c.loop-q.q = c.loop-q.invariant.0 in
    let rank : c.loop-q.rank ≡ rank_of loop c.loop-q.q = c.loop-q.invariant.1 in
    let v : c.if-rank-numbers.table ≡ allotted_number loop c.args.allotment.now c.loop-q.q = elim c.if-rank-numbers.branch [
      | then-rank-numbers w ↦ w.table-is ∙ ap (λ xs. slice_index xs c.loop-q.rank) ns ∙ ap (slice_index c.args.allotment.now.numbers) rank
      | else-rank-numbers w ↦
          let f = w.if-rank-numbers.false in
          let n = ap length ns in
          w.table-is ∙ sym (past-zero c.args.allotment.now.numbers c.loop-q.rank (omega arith)) ∙ ap (slice_index c.args.allotment.now.numbers) rank
    ] in (
      elim c.if-is_some.branch [
        | then-is_some w ↦ let r = w.rank-is in omega arith
        | else-is_some w ↦ let r = w.rank-is in omega arith
      ],
      elim c.if-is_some.branch [
        | then-is_some w ↦ let r = w.rank-is in let y = rank-yes loop.statements c.loop-q.q s l at (subst (λ (x : Statement). is_some x.name ≡ true) (sym c.index-statements-q.is) (sym c.is_some.ensures ∙ w.if-is_some.true)) in omega arith
        | else-is_some w ↦ let r = w.rank-is in let y = rank-no loop.statements c.loop-q.q s l at (subst (λ (x : Statement). is_some x.name ≡ false) (sym c.index-statements-q.is) (sym c.is_some.ensures ∙ w.if-is_some.false)) in omega arith
      ],
      table-more c.loop-q.table c.loop-q.q c.if-rank-numbers.table (allotted_number loop c.args.allotment.now) (omega arith) c.loop-q.invariant.2 v,
    )
