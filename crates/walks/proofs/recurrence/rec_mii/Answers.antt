use Rattle.std.proofs.Common.{◌-◌, ◌*◌, ◌<◌, ◌≤◌, length, inr, arith}
use Rattle.edges.specs.Graphs.{IsGraph}
use Rattle.walks.proofs.Sweeps.{asked_for-limited}
use Rattle.walks.proofs.recurrence.rec_mii.Goals as goal

pub loop-longer-init : goal.loop-longer-init
loop-longer-init c =
    let g : IsGraph c.args.edges.now = c.interval_of_self_edges-interval.ensures.well_formed in
    let few : length c.args.edges.now.latencies ≤ 128 = g.few in
    let limit : c.interval_of_self_edges-interval.result ≤ 64 * length c.args.edges.now.latencies
    = asked_for-limited c.args.edges.now c.interval_of_self_edges-interval.result g c.interval_of_self_edges-interval.ensures.asked_for in
    record { from_one = c.interval_of_self_edges-interval.ensures.from_one; limit = omega arith; asked_for = c.interval_of_self_edges-interval.ensures.asked_for }

pub returns-in-Heights-clause-range : goal.returns-in-Heights-clause-range
returns-in-Heights-clause-range c = asked_for-limited c.args.edges.now c.loop-longer.interval c.relax.ensures.well_formed c.loop-longer.invariant.asked_for

pub loop-longer-smaller : goal.loop-longer-smaller
loop-longer-smaller c =
    let g : IsGraph c.args.edges.now = c.relax.ensures.well_formed in
    let few : length c.args.edges.now.latencies ≤ 128 = g.few in
    let up : c.loop-longer.interval < c.in-Above.longer = c.in-Above.ensures.exact.0 in
    let limit : c.in-Above.longer ≤ 64 * length c.args.edges.now.latencies = asked_for-limited c.args.edges.now c.in-Above.longer g (inr c.in-Above.ensures.exact.1) in
    let less : 8192 - c.in-Above.longer < 8192 - c.loop-longer.interval = omega arith in
    less

pub loop-longer-preserved : goal.loop-longer-preserved
loop-longer-preserved c =
    let g : IsGraph c.args.edges.now = c.relax.ensures.well_formed in
    let few : length c.args.edges.now.latencies ≤ 128 = g.few in
    let up : c.loop-longer.interval < c.in-Above.longer = c.in-Above.ensures.exact.0 in
    let limit : c.in-Above.longer ≤ 64 * length c.args.edges.now.latencies = asked_for-limited c.args.edges.now c.in-Above.longer g (inr c.in-Above.ensures.exact.1) in
    record { from_one = omega arith; limit = omega arith; asked_for = inr c.in-Above.ensures.exact.1 }
