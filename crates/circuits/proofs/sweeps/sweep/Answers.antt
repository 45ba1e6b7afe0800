use Rattle.std.proofs.Common.{rules, ◌≡◌, ℕ, ◌+◌, ◌-◌, ◌*◌, ◌<◌, ◌≤◌, length, get_or, ◌∙◌, subst, arith}
use Rattle.std.proofs.Math.ListN.{length-set}
use Rattle.edges.specs.Graphs.{IsGraph}
use Rattle.walks.proofs.Sweeps.{fits-from_kept_numbers, keeps-from_each}
use Rattle.circuits.specs.inner.Layers.{IsFarthest}
use Rattle.circuits.proofs.Layers.{IsFarthestAt, short-targets}
use Rattle.circuits.proofs.Sweeping.{reach-short, short-more, short-set, first-set, keep-more}
use Rattle.circuits.proofs.sweeps.sweep.Goals as goal

pub loop-operation-init : goal.loop-operation-init
loop-operation-init c =
    let all : c.operations-operation.result ≡ length c.args.edges.now.latencies = c.operations-operation.ensures.value in
    record {
      long = search rules;
      all = search rules;
      within = omega arith;
      short = short-more c.args.edges.now (8192 * c.args.made) _ c.args.lengths.now (omega arith) c.requires.lengths;
      begins = c.requires.first;
      stays = λ _ p below past. absurd (omega arith);
    }

pub farthest-walk-requires-clause-own_small : goal.farthest-walk-requires-clause-own_small
farthest-walk-requires-clause-own_small c =
    let g : IsGraph c.args.edges.now = c.operations-operation.ensures.well_formed in
    let n : length c.args.edges.now.latencies ≤ 128 = g.few in
    let within : c.loop-operation.operation ≤ length c.args.edges.now.latencies = c.loop-operation.invariant.within in
    let some : 0 < c.loop-operation.operation = c.loop-operation-test.true in
    let few : c.args.made < 128 = c.requires.few in
    let h : get_or c.loop-operation.lengths (c.loop-operation.operation - 1) 0 ≤ 8192 * c.args.made + 64 * (length c.args.edges.now.latencies - c.loop-operation.operation)
    = c.loop-operation.invariant.short (c.loop-operation.operation - 1) (omega arith) in
    omega arith

pub farthest-walk-requires-clause-small : goal.farthest-walk-requires-clause-small
farthest-walk-requires-clause-small c =
    let g : IsGraph c.args.edges.now = c.operations-operation.ensures.well_formed in
    let n : length c.args.edges.now.latencies ≤ 128 = g.few in
    let few : c.args.made < 128 = c.requires.few in
    short-targets c.args.edges.now c.loop-operation.lengths g
    (short-more c.args.edges.now (8192 * c.args.made + 64 * (length c.args.edges.now.latencies - c.loop-operation.operation)) 1048576 c.loop-operation.lengths (omega arith)
    c.loop-operation.invariant.short) (c.loop-operation.operation - 1) c.out_of.result.now c.out_of.ensures.value

pub loop-operation-preserved-then-own-walk : goal.loop-operation-preserved-then-own-walk
loop-operation-preserved-then-own-walk c =
    let i : ℕ = c.loop-operation.operation - 1 in
    let n : ℕ = length c.args.edges.now.latencies in
    let reach : ℕ = c.farthest-walk.result.reach in
    let g : IsGraph c.args.edges.now = c.operations-operation.ensures.well_formed in
    let most : length c.args.edges.now.latencies ≤ 128 = g.few in
    let within : c.loop-operation.operation ≤ length c.args.edges.now.latencies = c.loop-operation.invariant.within in
    let some : 0 < c.loop-operation.operation = c.loop-operation-test.true in
    let long : length c.loop-operation.lengths ≡ 128 = c.loop-operation.invariant.long in
    let all : length c.loop-operation.first ≡ 128 = c.loop-operation.invariant.all in
    let f : IsFarthestAt c.args.edges.now c.args.interval c.loop-operation.lengths i c.farthest-walk.result.reach c.farthest-walk.result.first
    = subst (λ l. IsFarthest l c.args.interval c.loop-operation.lengths (get_or c.loop-operation.lengths i 0) c.farthest-walk.result.reach c.farthest-walk.result.first)
    c.out_of.ensures.value c.farthest-walk.ensures in
    let few : c.farthest-walk.result.reach ≤ (8192 * c.args.made + 64 * (length c.args.edges.now.latencies - c.loop-operation.operation)) + 64
    = reach-short c.args.edges.now c.args.interval (8192 * c.args.made + 64 * (length c.args.edges.now.latencies - c.loop-operation.operation)) i
    c.farthest-walk.result.reach c.loop-operation.lengths c.farthest-walk.result.first g c.loop-operation.invariant.short (omega arith) f in
    record {
      long = length-set c.loop-operation.lengths i c.farthest-walk.result.reach ∙ long;
      all = length-set c.loop-operation.first i c.farthest-walk.result.first ∙ all;
      within = omega arith;
      short = short-set c.args.edges.now (8192 * c.args.made + 64 * (length c.args.edges.now.latencies - c.loop-operation.operation)) _ i
          c.farthest-walk.result.reach c.loop-operation.lengths (omega arith) (omega arith) (omega arith) c.loop-operation.invariant.short;
      begins = first-set c.args.edges.now c.args.interval i c.farthest-walk.result.reach c.loop-operation.lengths c.loop-operation.first c.farthest-walk.result.first g (omega arith)
          c.loop-operation.invariant.begins f;
      stays = λ wrong. cc;
    }

pub loop-operation-preserved : goal.loop-operation-preserved
loop-operation-preserved c =
    let i : ℕ = c.loop-operation.operation - 1 in
    let some : 0 < c.loop-operation.operation = c.loop-operation-test.true in
    let within : c.loop-operation.operation ≤ length c.args.edges.now.latencies = c.loop-operation.invariant.within in
    let at : i + 1 ≡ c.loop-operation.operation = omega arith in
    let f : IsFarthestAt c.args.edges.now c.args.interval c.loop-operation.lengths i c.farthest-walk.result.reach c.farthest-walk.result.first
    = subst (λ l. IsFarthest l c.args.interval c.loop-operation.lengths (get_or c.loop-operation.lengths i 0) c.farthest-walk.result.reach c.farthest-walk.result.first)
    c.out_of.ensures.value c.farthest-walk.ensures in
    let low : c.farthest-walk.result.reach ≤ get_or c.loop-operation.lengths i 0 = c.if-own-walk.false in
    let up : get_or c.loop-operation.lengths i 0 ≤ c.farthest-walk.result.reach = f.no_shorter in
    record {
      long = c.loop-operation.invariant.long;
      all = c.loop-operation.invariant.all;
      within = omega arith;
      short = short-more c.args.edges.now (8192 * c.args.made + 64 * (length c.args.edges.now.latencies - c.loop-operation.operation)) _ c.loop-operation.lengths (omega arith)
          c.loop-operation.invariant.short;
      begins = c.loop-operation.invariant.begins;
      stays = λ none. keep-more c.args.edges.now c.args.interval c.loop-operation.operation i c.farthest-walk.result.reach c.loop-operation.lengths c.farthest-walk.result.first at
          (omega arith) (c.loop-operation.invariant.stays none) f;
    }

pub returns-clause-lengths : goal.returns-clause-lengths
returns-clause-lengths c =
    let g : IsGraph c.args.edges.now = c.operations-operation.ensures.well_formed in
    let most : length c.args.edges.now.latencies ≤ 128 = g.few in
    let past : c.loop-operation.operation ≤ 0 = c.loop-operation-test.false in
    short-more c.args.edges.now (8192 * c.args.made + 64 * (length c.args.edges.now.latencies - c.loop-operation.operation)) (8192 * (c.args.made + 1)) c.loop-operation.lengths (omega arith)
    c.loop-operation.invariant.short

pub returns-clause-stays : goal.returns-clause-stays
returns-clause-stays c = λ none.
    let past : c.loop-operation.operation ≤ 0 = c.loop-operation-test.false in
    fits-from_kept_numbers c.args.edges.now c.args.interval c.loop-operation.lengths
    (keeps-from_each c.args.edges.now c.args.interval c.loop-operation.lengths c.operations-operation.ensures.well_formed
    (λ p below. c.loop-operation.invariant.stays none p below (omega arith)))
