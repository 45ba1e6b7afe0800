use Rattle.std.proofs.Common.{◌/◌, ◌<◌, ◌≤◌, length, sym, subst, arith}
use Rattle.schedules.proofs.lawfulness.Checking.{time_at}
use Rattle.schedules.proofs.check.late.Goals as goal

pub returns-then-place-ii-ge-MAX_STAGES : goal.returns-then-place-ii-ge-MAX_STAGES
returns-then-place-ii-ge-MAX_STAGES c = (
  c.loop-op-test.true,
  subst (λ n. 64 ≤ n / c.args.ii) (sym (time_at c.args.places.now c.loop-op.op (0, 0) c.loop-op-test.true)) c.if-place-ii-ge-MAX_STAGES.true,
  λ sooner less.
      let listed : sooner < length c.args.places.now = omega arith in
      subst (λ n. n / c.args.ii < 64) (sym (time_at c.args.places.now sooner (0, 0) listed)) (c.loop-op.invariant sooner (0, 0) less),
)
