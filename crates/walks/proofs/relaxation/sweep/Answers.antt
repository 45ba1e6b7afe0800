use Rattle.std.proofs.Common.{◌+◌, ◌*◌, ◌≤◌, length, get_or, arith}
use Rattle.edges.specs.Graphs.{IsGraph}
use Rattle.walks.proofs.Settling.{reach-limited}
use Rattle.walks.proofs.relaxation.sweep.Goals as goal

pub keeps_back-requires-clause-small : goal.keeps_back-requires-clause-small
keeps_back-requires-clause-small c = λ p below.
    let g : IsGraph c.args.edges.now = c.in_ok-rising.ensures.well_formed in
    let few : length c.args.edges.now.latencies ≤ 128 = g.few in
    let h : get_or c.raise_all.new.numbers p 0 ≤ 64 * (128 * (c.args.made + 1)) + 64
    = reach-limited c.args.edges.now c.args.interval (128 * (c.args.made + 1)) (c.args.made + 1) p (get_or c.raise_all.new.numbers p 0) g below (c.in_ok-rising.ensures.reaches p below) in
    omega arith

pub returns-clause-rises : goal.returns-clause-rises
returns-clause-rises c = c.in_ok-rising.ensures.rises
