use Rattle.std.proofs.Common.{◌≡◌, ℕ, ◌*◌, max, ap, ◌∙◌, arith}
use Rattle.std.specs.Prelude.{if◌then◌else◌}
use Rattle.loop_schedules.specs.Schedules.{stages_of}
use Rattle.overlap.specs.Lifetimes.{is_out, first_cycle, last_cycle, last_landing}
use Rattle.rotating.proofs.lives.Spans.{read-last}
use Rattle.rotating.proofs.values.lifetime.lifetime_of.Goals as goal

pub returns : goal.returns
returns c =
    let s = c.args.schedule.now in
    let v = c.args.value in
    let r = read-last s c.landing_of-landing.ensures.well_formed v in
    let m = c.max.ensures in
    let q = c.requires.last in
    let g = c.landing_of-landing.ensures.value in
    let w : ℕ = if is_out s.problem.loop v then max (s.ii * stages_of s) (last_landing s) else 0 in
    let l : c.max.result ≡ last_cycle s v = omega arith in
    ap (λ n. record { operation = v; first = n; last = c.max.result }) c.first_cycle.ensures
    ∙ ap (λ n. record { operation = v; first = first_cycle s v; last = n }) l
