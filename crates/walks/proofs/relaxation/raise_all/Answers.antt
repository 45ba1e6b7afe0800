use Rattle.std.proofs.Common.{rules, ◌≡◌, ℕ, ◌+◌, ◌-◌, ◌*◌, ◌<◌, ◌≤◌, ◌==◌, length, get_or, filter, pos, ◌∙◌, subst, arith, Some}
use Rattle.std.proofs.lemmas.List.Elements.{Contains-get_or}
use Rattle.std.proofs.Math.ListN.{length-set}
use Rattle.edges.specs.Edges.{EdgeData}
use Rattle.edges.specs.Graphs.{IsGraph}
use Rattle.walks.specs.inner.Reaches.{IsReach, IsRaised, IsRise}
use Rattle.walks.proofs.Raises.{small-targets, edge-outgoing}
use Rattle.walks.proofs.Sweeps.{swept_none, swept_all, swept-small, swept-reach, swept-risen, swept-kept, rise-from_reach, vias-set, keep-more, keeps-from_each, onward-risen, onward-more, onward-all}
use Rattle.walks.proofs.relaxation.raise_all.Goals as goal

pub loop-operation-init : goal.loop-operation-init
loop-operation-init c = record {
  long = search rules;
  vias_long = search rules;
  within = omega arith;
  swept = swept_none c.args.edges.now c.args.interval c.args.made c.operations-operation.result c.args.numbers.now c.operations-operation.ensures.value c.requires.reaches;
  via = c.requires.via;
  rises = λ p wrong. cc;
  stays = λ _ p below past. absurd (let all : c.operations-operation.result ≡ length c.args.edges.now.latencies = c.operations-operation.ensures.value in omega arith);
  onward = λ p below past. absurd (let all : c.operations-operation.result ≡ length c.args.edges.now.latencies = c.operations-operation.ensures.value in omega arith);
}

pub raised-raised-requires-clause-own_small : goal.raised-raised-requires-clause-own_small
raised-raised-requires-clause-own_small c =
    let within : c.loop-operation.operation ≤ length c.args.edges.now.latencies = c.loop-operation.invariant.within in
    let some : 0 < c.loop-operation.operation = c.loop-operation-test.true in
    swept-small c.args.edges.now c.args.interval c.args.made c.loop-operation.operation c.loop-operation.numbers c.out_of-outgoing.ensures.well_formed c.requires.few
    c.loop-operation.invariant.swept (c.loop-operation.operation - 1) (omega arith)

pub raised-raised-requires-clause-small : goal.raised-raised-requires-clause-small
raised-raised-requires-clause-small c =
    small-targets c.args.edges.now c.loop-operation.numbers c.out_of-outgoing.ensures.well_formed
    (swept-small c.args.edges.now c.args.interval c.args.made c.loop-operation.operation c.loop-operation.numbers c.out_of-outgoing.ensures.well_formed c.requires.few
    c.loop-operation.invariant.swept) (c.loop-operation.operation - 1) c.out_of-outgoing.result.now c.out_of-outgoing.ensures.value

pub loop-operation-preserved-then-own-raised : goal.loop-operation-preserved-then-own-raised
loop-operation-preserved-then-own-raised c =
    let i : ℕ = c.loop-operation.operation - 1 in
    let best : ℕ = c.raised-raised.result.number in
    let g : IsGraph c.args.edges.now = c.out_of-outgoing.ensures.well_formed in
    let few : length c.args.edges.now.latencies ≤ 128 = g.few in
    let some : 0 < c.loop-operation.operation = c.loop-operation-test.true in
    let within : c.loop-operation.operation ≤ length c.args.edges.now.latencies = c.loop-operation.invariant.within in
    let at : i + 1 ≡ c.loop-operation.operation = omega arith in
    let r : IsRaised (filter (λ (e : EdgeData). e.from == i) c.args.edges.now.edges) c.args.interval c.loop-operation.numbers (get_or c.loop-operation.numbers i 0) best
    = subst (λ l. IsRaised l c.args.interval c.loop-operation.numbers (get_or c.loop-operation.numbers i 0) best) c.out_of-outgoing.ensures.value c.raised-raised.ensures.raised in
    let new : IsReach c.args.edges.now c.args.interval (128 * c.args.made + (length c.args.edges.now.latencies - i)) (c.args.made + 1) i best
    = swept-reach c.args.edges.now c.args.interval c.args.made c.loop-operation.operation i best c.loop-operation.numbers
    c.out_of-outgoing.ensures.well_formed at within c.loop-operation.invariant.swept r in
    let long : length c.loop-operation.numbers ≡ 128 = c.loop-operation.invariant.long in
    let vias_long : length c.loop-operation.via ≡ 128 = c.loop-operation.invariant.vias_long in
    let rise : IsRise c.args.edges.now c.args.interval c.args.made i
    = rise-from_reach c.args.edges.now c.args.interval _ _ c.args.made _ i _ c.raised-raised.result.number (omega arith)
    (c.loop-operation.invariant.swept.each i (omega arith)) new c.if-own-raised.true in
    let zero : EdgeData = record { from = 0; to = 0; distance = 0; delay = pos 0 } in
    let edge : EdgeData = get_or c.out_of-outgoing.result.now c.raised-raised.result.via zero in
    record {
      long = length-set c.loop-operation.numbers i c.raised-raised.result.number ∙ long;
      vias_long = length-set c.loop-operation.via i (Some edge) ∙ vias_long;
      within = omega arith;
      swept = swept-risen c.args.edges.now c.args.interval c.args.made c.loop-operation.operation i c.raised-raised.result.number c.loop-operation.numbers g at within
          (omega arith) c.loop-operation.invariant.swept new;
      via = vias-set c.args.edges.now c.loop-operation.via i (Some edge) c.loop-operation.invariant.via (omega arith)
          (let h = edge-outgoing c.args.edges.now g i c.out_of-outgoing.result.now c.out_of-outgoing.ensures.value edge
          (Contains-get_or c.out_of-outgoing.result.now c.raised-raised.result.via zero (c.raised-raised.ensures.via c.if-own-raised.true)) in (h.0, h.1));
      rises = λ p is. (let here : i ≡ p = cc in subst (IsRise c.args.edges.now c.args.interval c.args.made) here rise);
      stays = λ wrong. cc;
      onward = onward-risen c.args.edges.now c.args.interval c.loop-operation.operation i c.raised-raised.result.number c.loop-operation.numbers at (omega arith)
          c.loop-operation.invariant.onward r;
    }

pub loop-operation-preserved : goal.loop-operation-preserved
loop-operation-preserved c =
    let i : ℕ = c.loop-operation.operation - 1 in
    let best : ℕ = c.raised-raised.result.number in
    let some : 0 < c.loop-operation.operation = c.loop-operation-test.true in
    let within : c.loop-operation.operation ≤ length c.args.edges.now.latencies = c.loop-operation.invariant.within in
    let at : i + 1 ≡ c.loop-operation.operation = omega arith in
    let r : IsRaised (filter (λ (e : EdgeData). e.from == i) c.args.edges.now.edges) c.args.interval c.loop-operation.numbers (get_or c.loop-operation.numbers i 0) best
    = subst (λ l. IsRaised l c.args.interval c.loop-operation.numbers (get_or c.loop-operation.numbers i 0) best) c.out_of-outgoing.ensures.value c.raised-raised.ensures.raised in
    let new : IsReach c.args.edges.now c.args.interval (128 * c.args.made + (length c.args.edges.now.latencies - i)) (c.args.made + 1) i best
    = swept-reach c.args.edges.now c.args.interval c.args.made c.loop-operation.operation i best c.loop-operation.numbers
    c.out_of-outgoing.ensures.well_formed at within c.loop-operation.invariant.swept r in
    let low : c.raised-raised.result.number ≤ get_or c.loop-operation.numbers i 0 = c.if-own-raised.false in
    let up : get_or c.loop-operation.numbers i 0 ≤ c.raised-raised.result.number = r.no_lower in
    let same : c.raised-raised.result.number ≡ get_or c.loop-operation.numbers i 0 = omega arith in
    record {
      long = c.loop-operation.invariant.long;
      vias_long = c.loop-operation.invariant.vias_long;
      within = omega arith;
      swept = swept-kept c.args.edges.now c.args.interval c.args.made c.loop-operation.operation i c.loop-operation.numbers c.out_of-outgoing.ensures.well_formed at within
          c.loop-operation.invariant.swept (subst (IsReach c.args.edges.now c.args.interval _ _ i) same new);
      via = c.loop-operation.invariant.via;
      rises = c.loop-operation.invariant.rises;
      stays = λ none. keep-more c.args.edges.now c.args.interval c.loop-operation.operation i c.raised-raised.result.number c.loop-operation.numbers at same
          (c.loop-operation.invariant.stays none) r;
      onward = onward-more c.args.edges.now c.args.interval c.loop-operation.operation i c.raised-raised.result.number c.loop-operation.numbers at same
          c.loop-operation.invariant.onward r;
    }

pub returns-clause-reaches : goal.returns-clause-reaches
returns-clause-reaches c =
    swept_all c.args.edges.now c.args.interval c.args.made c.loop-operation.operation c.loop-operation.numbers c.operations-operation.ensures.well_formed
    (let past : c.loop-operation.operation ≤ 0 = c.loop-operation-test.false in omega arith) c.loop-operation.invariant.swept

pub returns-clause-stays : goal.returns-clause-stays
returns-clause-stays c = λ none.
    keeps-from_each c.args.edges.now c.args.interval c.loop-operation.numbers c.operations-operation.ensures.well_formed
    (λ p below. c.loop-operation.invariant.stays none p below (let past : c.loop-operation.operation ≤ 0 = c.loop-operation-test.false in omega arith))

pub returns-clause-onward : goal.returns-clause-onward
returns-clause-onward c =
    onward-all c.args.edges.now c.args.interval c.loop-operation.numbers c.operations-operation.ensures.well_formed
    (λ p below _. c.loop-operation.invariant.onward p below (let past : c.loop-operation.operation ≤ 0 = c.loop-operation-test.false in omega arith))
