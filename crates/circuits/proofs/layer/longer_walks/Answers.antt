use Rattle.std.proofs.Common.{◌≡◌, ℕ, ◌+◌, ◌<◌, ◌≤◌, set, length, get_or, ◌∙◌, subst, arith}
use Rattle.std.proofs.Math.ListN.{length-set}
use Rattle.edges.specs.Graphs.{IsGraph}
use Rattle.circuits.specs.inner.Layers.{IsFarthest}
use Rattle.circuits.proofs.Layers.{IsFarthestAt, IsLongerAt, layer-more, longer-here, longer-kept, short-targets}
use Rattle.circuits.proofs.layer.longer_walks.Goals as goal
use Rattle.circuits.proofs.layer.longer_walks.Goals.{then-own-walk, else-own-walk}

pub farthest-walk-requires-clause-small : goal.farthest-walk-requires-clause-small
farthest-walk-requires-clause-small c =
    short-targets c.args.edges.now c.args.before.now c.out_of.ensures.well_formed c.requires.small c.loop-operation.operation c.out_of.result.now c.out_of.ensures.value

pub loop-operation-preserved : goal.loop-operation-preserved
loop-operation-preserved c =
    let i : ℕ = c.loop-operation.operation in
    let reach : ℕ = c.farthest-walk.result.reach in
    let g : IsGraph c.args.edges.now = c.out_of.ensures.well_formed in
    let few : length c.args.edges.now.latencies ≤ 128 = g.few in
    let all : c.operations-operation-end.result ≡ length c.args.edges.now.latencies = c.operations-operation-end.ensures.value in
    let within : i < c.operations-operation-end.result = c.loop-operation-test.true in
    let long : length c.loop-operation.lengths ≡ 128 = c.loop-operation.invariant.long in
    let vias : length c.loop-operation.first ≡ 128 = c.loop-operation.invariant.all in
    let f : IsFarthestAt c.args.edges.now c.args.interval c.args.before.now i reach c.farthest-walk.result.first
    = subst (λ l. IsFarthest l c.args.interval c.args.before.now (get_or c.args.before.now i 0) reach c.farthest-walk.result.first) c.out_of.ensures.value c.farthest-walk.ensures in
    let longer : IsLongerAt c.args.before.now (set c.loop-operation.lengths i reach) (i + 1) c.if-own-walk.at
    = elim c.if-own-walk.branch [
      | then-own-walk w ↦ rw w.at-is (longer-here c.args.before.now c.loop-operation.lengths i reach (omega arith) w.if-own-walk.true)
      | else-own-walk w ↦ rw w.at-is (longer-kept c.args.before.now c.loop-operation.lengths i reach c.loop-operation.at (omega arith)
          (let low : reach ≤ get_or c.args.before.now i 0 = w.if-own-walk.false in
          let up : get_or c.args.before.now i 0 ≤ reach = f.no_shorter in
          omega arith)
          c.loop-operation.invariant.longer)
    ] in
    record {
      long = length-set c.loop-operation.lengths i reach ∙ long;
      all = length-set c.loop-operation.first i c.farthest-walk.result.first ∙ vias;
      layer = layer-more c.args.edges.now c.args.interval c.args.before.now c.loop-operation.lengths c.loop-operation.first i reach c.farthest-walk.result.first
          (omega arith) (omega arith) c.loop-operation.invariant.layer f;
      longer = longer;
    }
