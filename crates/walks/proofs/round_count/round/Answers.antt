use Rattle.std.proofs.Common.{◌≡◌, ℕ, ◌+◌, ◌<◌, ◌≤◌, ◌==◌, List, length, get_or, set, filter, sym, ◌∙◌, subst, arith, get_or-set_same}
use Rattle.std.proofs.Math.ListN.{length-set}
use Rattle.edges.specs.Edges.{EdgeData}
use Rattle.walks.specs.inner.Reaches.{IsRaised}
use Rattle.walks.proofs.Raises.{row-more, get_or-set_far, small-targets}
use Rattle.walks.proofs.round_count.round.Goals as goal
use Rattle.walks.proofs.round_count.round.Goals.{then-own-best, else-own-best}

pub raised-best-requires-clause-small : goal.raised-best-requires-clause-small
raised-best-requires-clause-small c =
    small-targets c.args.edges.now c.args.numbers.now c.out_of.ensures.well_formed c.requires.small c.loop-operation.operation c.out_of.result.now c.out_of.ensures.value

pub loop-operation-preserved : goal.loop-operation-preserved
loop-operation-preserved c =
    let i : ℕ = c.loop-operation.operation in
    let row : List ℕ = c.loop-operation.next in
    let value : ℕ = c.raised-best.result.number in
    let long : length c.loop-operation.next ≡ 128 = c.loop-operation.invariant.long in
    let all : c.operations-operation-end.result ≡ length c.args.edges.now.latencies = c.operations-operation-end.ensures.value in
    let few : length c.args.edges.now.latencies ≤ 128 = c.operations-operation-end.ensures.well_formed.few in
    let within : c.loop-operation.operation < c.operations-operation-end.result = c.loop-operation-test.true in
    let there : c.loop-operation.operation < length c.loop-operation.next = omega arith in
    let here : get_or (set row i value) i 0 ≡ value = get_or-set_same row i value 0 there in
    let new : IsRaised (filter (λ (e : EdgeData). e.from == i) c.args.edges.now.edges) c.args.interval c.args.numbers.now (get_or c.args.numbers.now i 0) value
    = subst (λ l. IsRaised l c.args.interval c.args.numbers.now (get_or c.args.numbers.now i 0) value) c.out_of.ensures.value c.raised-best.ensures.raised in
    let raised : (p : ℕ) → p < i + 1 → IsRaised (filter (λ (e : EdgeData). e.from == p) c.args.edges.now.edges) c.args.interval c.args.numbers.now
    (get_or c.args.numbers.now p 0) (get_or (set row i value) p 0)
    = row-more (λ (p n : ℕ). IsRaised (filter (λ (e : EdgeData). e.from == p) c.args.edges.now.edges) c.args.interval c.args.numbers.now (get_or c.args.numbers.now p 0) n)
    row i value there c.loop-operation.invariant.raised new in
    elim c.if-own-best.branch [
      | then-own-best w ↦ rw w.rising-is (record {
        long = length-set row i value ∙ long;
        raised = raised;
        rises = λ p is. (let at : i ≡ p = cc in
            let up : get_or c.args.numbers.now i 0 < value = w.if-own-best.true in
            let risen : get_or c.args.numbers.now i 0 < get_or (set row i value) i 0 = omega arith in
            (omega arith, subst (λ k. get_or c.args.numbers.now k 0 < get_or (set row i value) k 0) at risen));
        stays = λ wrong. cc;
      })
      | else-own-best w ↦ rw w.rising-is (record {
        long = length-set row i value ∙ long;
        raised = raised;
        rises = λ p is. (let r = c.loop-operation.invariant.rises p is in
            let before : p < i = r.0 in
            (omega arith, subst (λ k. get_or c.args.numbers.now p 0 < k) (sym (get_or-set_far row i p value before)) r.1));
        stays = λ kept. row-more (λ (p n : ℕ). n ≡ get_or c.args.numbers.now p 0) row i value there (c.loop-operation.invariant.stays kept)
            (let low : value ≤ get_or c.args.numbers.now i 0 = w.if-own-best.false in
            let up : get_or c.args.numbers.now i 0 ≤ value = new.no_lower in omega arith);
      })
    ]

pub returns-clause-raised : goal.returns-clause-raised
returns-clause-raised c = λ p below.
    let all : c.operations-operation-end.result ≡ length c.args.edges.now.latencies = c.operations-operation-end.ensures.value in
    let past : c.operations-operation-end.result ≤ c.loop-operation.operation = c.loop-operation-test.false in
    c.loop-operation.invariant.raised p (omega arith)

pub returns-clause-rises : goal.returns-clause-rises
returns-clause-rises c = λ p is.
    let all : c.operations-operation-end.result ≡ length c.args.edges.now.latencies = c.operations-operation-end.ensures.value in
    let end : c.loop-operation.operation ≤ c.operations-operation-end.result = c.loop-operation.auto.operation-end in
    let r = c.loop-operation.invariant.rises p is in
    let before : p < c.loop-operation.operation = r.0 in
    (omega arith, r.1)

pub returns-clause-stays : goal.returns-clause-stays
returns-clause-stays c = λ kept p below.
    let all : c.operations-operation-end.result ≡ length c.args.edges.now.latencies = c.operations-operation-end.ensures.value in
    let past : c.operations-operation-end.result ≤ c.loop-operation.operation = c.loop-operation-test.false in
    c.loop-operation.invariant.stays kept p (omega arith)
