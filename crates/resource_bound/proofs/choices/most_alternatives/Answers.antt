use Rattle.std.proofs.Common.{◌≡◌, ◌<◌, ◌≤◌, max, List, [], ◌∷◌, length, get_or, take, sym, ap, ◌∙◌, subst, arith}
use Rattle.std.specs.List.{All}
use Rattle.std.proofs.lemmas.List.{take_all, take_more}
use Rattle.std.proofs.lemmas.List.Elements.{All-nil, All-cons, All-append}
use Rattle.machine_data.specs.declared.alternative.Row.{Row}
use Rattle.machine_data.specs.Alternative.{AreAlternatives}
use Rattle.unit_bound.proofs.Most.{greater}
use Rattle.resource_bound.proofs.choices.most_alternatives.Goals as goal

pub loop-number-preserved : goal.loop-number-preserved
loop-number-preserved g c =
    let operations : List (List (List Row)) = g.O.Offers.operations c.args.operations.now in
    let i = c.loop-number.number in
    let within : i < length operations = omega (arith, c.loop-number-test.true, c.count-number-end.ensures) in
    let same : c.alternatives.result.now ≡ get_or operations i [] = c.alternatives.ensures.value in
    let formed : AreAlternatives (get_or operations i []) = subst AreAlternatives same c.alternatives.ensures.well_formed in
    let long : length c.alternatives.result.now ≡ length (get_or operations i []) = ap length same in
    let few : length (get_or operations i []) ≤ 16 = formed.few in
    let kept : c.loop-number.most ≤ 16 = c.loop-number.invariant.few in
    let top : c.max-most.result ≡ max c.loop-number.most (length c.alternatives.result.now) = c.max-most.ensures ∙ greater c.loop-number.most (length c.alternatives.result.now) in
    let P = λ (alternatives : List (List Row)). length alternatives ≤ c.max-most.result in
    record {
      all = subst (All P) (sym (take_more operations i [] within))
          (All-append P (take i operations) (get_or operations i [] ∷ []) (λ k d lt. let one = c.loop-number.invariant.all k d lt in omega arith)
          (All-cons P (get_or operations i []) [] (omega arith) (All-nil P)));
      few = omega arith;
    }

pub returns-clause-all : goal.returns-clause-all
returns-clause-all g c =
    subst (All (λ (alternatives : List (List Row)). length alternatives ≤ c.loop-number.most))
    (take_all c.loop-number.number (g.O.Offers.operations c.args.operations.now) (omega (arith, c.loop-number-test.false, c.count-number-end.ensures)))
    c.loop-number.invariant.all
