use Rattle.std.proofs.Common.{rules, ◌≡◌, ◌≤◌, ◌*◌, ap, ◌∙◌, arith}
use Rattle.loop_schedules.specs.Schedules.{stages_of}
use Rattle.rotating.proofs.lives.Spans.{end-few, landing-few}
use Rattle.rotating.proofs.values.lifetime.end_of.Goals as goal

pub overflow_mul-ii : goal.overflow_mul-ii
overflow_mul-ii c =
    let e = end-few c.args.schedule.now c.ii-ii.ensures.well_formed in
    let p : c.ii-ii.result * c.stages-stages.result ≡ c.args.schedule.now.ii * stages_of c.args.schedule.now
    = ap (λ n. n * c.stages-stages.result) c.ii-ii.ensures.value ∙ ap (λ n. c.args.schedule.now.ii * n) c.stages-stages.ensures.value in
    let h : c.ii-ii.result * c.stages-stages.result ≤ 1048576 = omega arith in
    search (rules, arith)

pub overflow_cast-result : goal.overflow_cast-result
overflow_cast-result c =
    let e = end-few c.args.schedule.now c.ii-ii.ensures.well_formed in
    let g = landing-few c.args.schedule.now c.ii-ii.ensures.well_formed in
    let p : c.ii-ii.result * c.stages-stages.result ≡ c.args.schedule.now.ii * stages_of c.args.schedule.now
    = ap (λ n. n * c.stages-stages.result) c.ii-ii.ensures.value ∙ ap (λ n. c.args.schedule.now.ii * n) c.stages-stages.ensures.value in
    let m = c.max.ensures in
    let l = c.last_landing.ensures in
    let h : c.max.result ≤ 1048640 = omega arith in
    search (rules, arith)
