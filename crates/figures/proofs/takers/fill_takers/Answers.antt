use Rattle.std.proofs.Common.{◌≡◌, ℕ, ◌+◌, ◌-◌, ◌<◌, List, length, cond, ap, ◌∙◌, subst, arith}
use Rattle.machine_data.specs.declared.alternative.Row.{Row}
use Rattle.mrt.specs.Taken.{takes}
use Rattle.figures.specs.Slots.{rows_at, takes_slot}
use Rattle.figures.specs.inner.Tables.{AreTakersFrom, taker_in}
use Rattle.figures.proofs.Marks.{takers-more}
use Rattle.figures.proofs.takers.fill_takers.Goals as goal

pub loop-op-preserved : goal.loop-op-preserved
loop-op-preserved c =
    let schedule = c.args.schedule.now in
    let op = c.loop-op.op - 1 in
    let some = c.loop-op-test.true in
    let next : c.loop-op.op ≡ op + 1 = omega arith in
    let there : op < length schedule.problem.operations = omega (arith, c.loop-op.invariant.within) in
    let old : List ℕ = c.loop-op.takers in
    let new : List ℕ = c.mark_rows.new.takers in
    let was : AreTakersFrom schedule (op + 1) old = subst (λ n. AreTakersFrom schedule n old) next c.loop-op.invariant.takers in
    let ii : c.ii-ii.result ≡ schedule.ii = c.ii-ii.ensures.value in
    record {
      within = omega (arith, there);
      takers = takers-more schedule op new old there was (λ unit row few lt.
          let taken : takes c.ii-ii.result c.rows_at-rows.result.now c.time.result unit row ≡ takes_slot schedule unit row op
          = ap (λ n. takes n c.rows_at-rows.result.now c.time.result unit row) ii
          ∙ ap (λ (rows : List Row). takes schedule.ii rows c.time.result unit row) c.rows_at-rows.ensures.value
          ∙ ap (λ time. takes schedule.ii (rows_at schedule op) time unit row) c.time.ensures.value in
          c.mark_rows.ensures.marked unit row few (omega arith) ∙ ap (λ b. cond b (op + 1) (taker_in old unit row)) taken);
    }
