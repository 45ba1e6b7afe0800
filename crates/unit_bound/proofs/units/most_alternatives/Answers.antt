use Rattle.std.proofs.Common.{◌≡◌, ◌+◌, ◌<◌, ◌≤◌, max, List, [], ◌∷◌, length, get_or, take, sym, ap, ◌∙◌, subst, arith}
use Rattle.std.specs.List.{All}
use Rattle.std.proofs.lemmas.List.{take_all, take_more}
use Rattle.std.proofs.lemmas.List.Elements.{All-nil, All-cons, All-append}
use Rattle.machine_data.specs.declared.alternative.Row.{Row}
use Rattle.machine_data.specs.Alternative.{AreAlternatives}
use Rattle.unit_bound.proofs.Most.{greater, most_of, most-more}
use Rattle.unit_bound.proofs.units.most_alternatives.Goals as goal

pub loop-operation-preserved : goal.loop-operation-preserved
loop-operation-preserved g c =
    let operations : List (List (List Row)) = g.O.Offers.operations c.args.operations.now in
    let i = c.loop-operation.operation in
    let within : i < length operations = omega (arith, c.loop-operation-test.true, c.count-operation-end.ensures) in
    let same : c.alternatives.result.now ≡ get_or operations i [] = c.alternatives.ensures.value in
    let formed : AreAlternatives (get_or operations i []) = subst AreAlternatives same c.alternatives.ensures.well_formed in
    let more : most_of (take (i + 1) operations) ≡ max (most_of (take i operations)) (length (get_or operations i [])) = most-more operations i within in
    let before : c.loop-operation.most ≡ most_of (take i operations) = c.loop-operation.invariant.greatest in
    let long : length c.alternatives.result.now ≡ length (get_or operations i []) = ap length same in
    let few : length (get_or operations i []) ≤ 16 = formed.few in
    let kept : c.loop-operation.most ≤ 16 = c.loop-operation.invariant.few in
    let top : c.max-most.result ≡ max c.loop-operation.most (length c.alternatives.result.now) = c.max-most.ensures ∙ greater c.loop-operation.most (length c.alternatives.result.now) in
    record {
      greatest = omega arith;
      few = omega arith;
      offered = subst (All AreAlternatives) (sym (take_more operations i [] within))
          (All-append AreAlternatives (take i operations) (get_or operations i [] ∷ []) c.loop-operation.invariant.offered
          (All-cons AreAlternatives (get_or operations i []) [] formed (All-nil AreAlternatives)));
    }

pub returns-clause-greatest : goal.returns-clause-greatest
returns-clause-greatest g c =
    c.loop-operation.invariant.greatest
    ∙ ap most_of (take_all c.loop-operation.operation (g.O.Offers.operations c.args.operations.now) (omega (arith, c.loop-operation-test.false, c.count-operation-end.ensures)))

pub returns-clause-offered : goal.returns-clause-offered
returns-clause-offered g c =
    subst (All AreAlternatives)
    (take_all c.loop-operation.operation (g.O.Offers.operations c.args.operations.now) (omega (arith, c.loop-operation-test.false, c.count-operation-end.ensures)))
    c.loop-operation.invariant.offered
