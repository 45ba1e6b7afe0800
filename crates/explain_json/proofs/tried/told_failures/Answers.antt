use Rattle.std.proofs.Common.{◌≡◌, ◌<◌, ◌+◌, List, [], ◌∷◌, ◌++◌, length, take, sym, ap, ◌∙◌, arith}
use Rattle.std.proofs.lemmas.List.{length-take-le, take_more}
use Rattle.serde_json.specs.Data.{Data}
use Rattle.told_choices.specs.declared.why.Why.{Why}
use Rattle.explain_json.specs.Tries.{failure_object, failures_from}
use Rattle.explain_json.proofs.Lists.{failures-push, pushed}
use Rattle.explain_json.proofs.tried.told_failures.Goals as goal

pub loop-number-preserved : goal.loop-number-preserved
loop-number-preserved c =
    let rs = c.args.reasons.now in
    let k = c.loop-number.number in
    let r = c.index-reasons-number.result in
    let low : k < length rs = omega arith in
    let at : take (k + 1) rs ≡ take k rs ++ r ∷ [] = take_more rs k r low ∙ ap (λ (x : Why). take k rs ++ x ∷ []) (sym c.index-reasons-number.is) in
    let long : length (take k rs) ≡ k = length-take-le k rs (omega arith) in
    pushed c.loop-number.values.items c.push.new.self.items c.in_ok-told_failure.field-0 (failure_object (c.args.least + k) r) c.in_ok-push.ensures.items c.in_ok-told_failure.ensures
    ∙ ap (λ (ds : List Data). ds ++ failure_object (c.args.least + k) r ∷ []) c.loop-number.invariant
    ∙ sym (ap (failures_from c.args.least) at ∙ failures-push c.args.least k (take k rs) r long)
