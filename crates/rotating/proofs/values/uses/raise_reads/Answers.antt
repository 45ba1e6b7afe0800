use Rattle.std.proofs.Common.{◌≡◌, ◌<◌, ◌+◌, ◌*◌, max, length, ◌∷◌, map, drop, sym, ap, ◌∙◌, arith}
use Rattle.std.specs.Prelude.{slice_index}
use Rattle.unit_bound.specs.Units.{greatest_of}
use Rattle.loop_data.specs.declared.language.statement.Statement.{Statement}
use Rattle.loop_data.specs.Loops.{LoopData}
use Rattle.loop_schedules.specs.Problems.{ProblemData}
use Rattle.overlap.specs.Lifetimes.{Use, read_at, uses_from}
use Rattle.rotating.specs.inner.Uses.{greatest_in}
use Rattle.rotating.proofs.lives.Greatest.{drop-at, uses-more}
use Rattle.rotating.proofs.values.uses.raise_reads.Goals as goal

pub loop-q-preserved : goal.loop-q-preserved
loop-q-preserved c =
    let schedule = c.args.schedule.now in
    let loop = schedule.problem.loop in
    let q = c.loop-q.q in
    let s : Statement = c.index-statements-q.result in
    let same : c.statements-statements.result.now ≡ loop.statements
    = c.statements-statements.ensures.value ∙ ap (λ (l : LoopData). l.statements) (c.innermost.ensures.value ∙ ap (λ (p : ProblemData). p.loop) c.prepared.ensures.value) in
    let t : q < length c.statements-statements.result.now = c.loop-q-test.true in
    let at : drop q loop.statements ≡ s ∷ drop (q + 1) loop.statements
    = ap (drop q) (sym same) ∙ drop-at c.statements-statements.result.now q s t c.index-statements-q.is ∙ ap (λ xs. s ∷ drop (q + 1) xs) same in
    let operands = c.as_slice.ensures ∙ ap (λ (x : Statement). x.operands) (sym c.index-statements-q.is) in (
      c.raise_both.ensures.long_carried,
      c.raise_both.ensures.long_lasts,
      λ v lt. (
          let more = ap (λ xs. greatest_of (map (λ (u : Use). u.distance) (uses_from v q xs))) at
          ∙ uses-more (λ (u : Use). u.distance) v 0 1 q s (drop (q + 1) loop.statements) (λ d. omega arith) in
          let r : slice_index c.raise_both.new.carried v ≡ max (slice_index c.loop-q.carried v) (greatest_in v 0 1 s.operands)
          = c.raise_both.ensures.carried v lt ∙ ap (λ os. max (slice_index c.loop-q.carried v) (greatest_in v 0 1 os)) operands in
          let i = c.loop-q.invariant.2 v lt in
          omega arith),
      λ v lt. (
          let more = ap (λ xs. greatest_of (map (read_at schedule) (uses_from v q xs))) at
          ∙ uses-more (read_at schedule) v (c.time-time.result) (c.ii-ii.result) q s (drop (q + 1) loop.statements)
          (λ d. let a = c.time-time.ensures.value in let b = c.ii-ii.ensures.value in ap (λ t. t + schedule.ii * d) (sym a) ∙ ap (λ n. c.time-time.result + n * d) (sym b)) in
          let r : slice_index c.raise_both.new.lasts v ≡ max (slice_index c.loop-q.lasts v) (greatest_in v c.time-time.result c.ii-ii.result s.operands)
          = c.raise_both.ensures.lasts v lt ∙ ap (λ os. max (slice_index c.loop-q.lasts v) (greatest_in v c.time-time.result c.ii-ii.result os)) operands in
          let i = c.loop-q.invariant.3 v lt in
          omega arith),
    )
