use Rattle.std.proofs.Common.{◌≡◌, ℕ, ◌*◌, ◌<◌, length, get_or, sym, ap, ◌∙◌, subst, arith}
use Rattle.std.specs.List.{slice_index}
use Rattle.std.proofs.lemmas.List.{get_or_default}
use Rattle.schedules.specs.Schedules.{ScheduleData, IsSchedule}
use Rattle.schedules.proofs.lawfulness.Stages.{time_below}
use Rattle.schedules.proofs.schedule.Schedule.time.Goals as goal

pub returns-clause-below : goal.returns-clause-below
returns-clause-below c =
    let s : ScheduleData = c.args.self.now in
    let is : IsSchedule s = subst IsSchedule c.self.view_is c.self.invariant.0 in
    let within : c.args.op < length s.times = omega (arith, is.lawful.plan.each_time, c.requires) in
    let items : c.self.inside.times.items ≡ s.times = ap (λ (x : ScheduleData). x.times) c.self.view_is in
    let read : c.index.result.now ≡ slice_index s.times c.args.op
    = c.index.ensures ∙ ap (λ l. get_or l c.args.op c.index.result.now) items ∙ get_or_default s.times c.args.op c.index.result.now 0 within in
    subst (λ (t : ℕ). t < 64 * s.ii) (sym read) (time_below s c.args.op is c.requires)
