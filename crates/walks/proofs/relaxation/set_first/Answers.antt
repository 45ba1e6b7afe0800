use Rattle.std.proofs.Common.{◌≡◌, ℕ, ◌≤◌, ◌<◌, length, get_or, ◌∙◌, arith}
use Rattle.std.proofs.Math.ListN.{length-set}
use Rattle.walks.proofs.Raises.{reach-first, row-more}
use Rattle.walks.proofs.relaxation.set_first.Goals as goal

pub loop-operation-preserved : goal.loop-operation-preserved
loop-operation-preserved c =
    let long : length c.loop-operation.numbers ≡ 128 = c.loop-operation.invariant.long in
    let all : c.operations-operation-end.result ≡ length c.args.edges.now.latencies = c.operations-operation-end.ensures.value in
    let few : length c.args.edges.now.latencies ≤ 128 = c.operations-operation-end.ensures.well_formed.few in
    let within : c.loop-operation.operation < c.operations-operation-end.result = c.loop-operation-test.true in
    record {
      long = length-set c.loop-operation.numbers c.loop-operation.operation c.from.result ∙ long;
      each = row-more (λ (p n : ℕ). n ≡ get_or c.args.edges.now.latencies p 0) c.loop-operation.numbers c.loop-operation.operation c.from.result (omega arith)
          c.loop-operation.invariant.each (c.from.ensures ∙ c.latency.ensures.value);
    }

pub returns : goal.returns
returns c = λ p below.
    let all : c.operations-operation-end.result ≡ length c.args.edges.now.latencies = c.operations-operation-end.ensures.value in
    let past : c.operations-operation-end.result ≤ c.loop-operation.operation = c.loop-operation-test.false in
    reach-first c.args.edges.now c.args.interval p _ (c.loop-operation.invariant.each p (omega arith))
