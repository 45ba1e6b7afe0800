use Rattle.std.proofs.Common.{◌≡◌, ℕ, ◌/◌, ◌<◌, max, map, take, get_or, ap, ◌∙◌, rules, nat_cmp, arith}
use Rattle.std.specs.Ordering.{ord_max}
use Rattle.std.proofs.lemmas.List.{take_all}
use Rattle.unit_bound.specs.Units.{greatest_of}
use Rattle.schedules.proofs.lawfulness.Greatest.{greatest_more}
use Rattle.schedules.proofs.lawfulness.Stages.{greatest_below}
use Rattle.schedules.proofs.stages.count_stages.Goals as goal

greater : (a b : ℕ) → ord_max nat_cmp a b ≡ max a b
greater a b = search rules

pub loop-time-preserved : goal.loop-time-preserved
loop-time-preserved c =
    let i : ℕ = c.loop-time.time-index in
    c.max-greatest.ensures ∙ greater c.loop-time.greatest (get_or c.args.times.now i 0 / c.args.ii)
    ∙ greatest_more (λ time. time / c.args.ii) c.args.times.now i c.loop-time.greatest c.loop-time-test.true c.loop-time.invariant

pub overflow_add-result : goal.overflow_add-result
overflow_add-result c =
    let all : take c.loop-time.time-index c.args.times.now ≡ c.args.times.now = take_all c.loop-time.time-index c.args.times.now (omega arith) in
    let few : greatest_of (map (λ time. time / c.args.ii) c.args.times.now) < 64 = greatest_below (λ time. time / c.args.ii) 64 c.args.times.now (omega arith) c.requires.few in
    let is : c.loop-time.greatest ≡ greatest_of (map (λ time. time / c.args.ii) c.args.times.now)
    = c.loop-time.invariant ∙ ap (λ l. greatest_of (map (λ time. time / c.args.ii) l)) all in
    omega arith
