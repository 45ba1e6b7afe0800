use Rattle.std.proofs.Common.{ℕ, ◌≤◌, sym, subst}
use Rattle.schedules.proofs.lawfulness.Stages.{stages-are_few}
use Rattle.schedules.proofs.schedule.Schedule.stages.Goals as goal

pub returns-clause-few : goal.returns-clause-few
returns-clause-few c = subst (λ (n : ℕ). n ≤ 64) (sym c.self.invariant.1) (stages-are_few _ c.self.invariant.0).0
