use Rattle.std.proofs.Common.{◌<◌, ◌∙◌, ℕ, length, ap, arith}
use Rattle.std.specs.Prelude.{slice_index}
use Rattle.std.specs.List.{slice_index_or}
use Rattle.std.proofs.lemmas.List.{get_or_default}
use Rattle.registers.specs.declared.lifetime.Lifetime.{Lifetime}
use Rattle.registers.specs.Crowds.{nobody}
use Rattle.explain_json.specs.Kernels.{value_object}
use Rattle.explain_json.proofs.Lists.{numbered-more}
use Rattle.explain_json.proofs.values.told_values.Goals as goal

pub loop-k-preserved : goal.loop-k-preserved
loop-k-preserved c =
    let low : c.loop-k.k < length c.args.lives.now = omega arith in
    numbered-more (λ (k : ℕ). value_object (slice_index_or c.args.lives.now k nobody) (slice_index c.args.numbers.now k)) c.loop-k.values.items c.push.new.self.items c.in_ok-told_value.field-0
    c.loop-k.k c.loop-k.invariant
    (c.in_ok-told_value.ensures ∙ ap (λ (life : Lifetime). value_object life (slice_index c.args.numbers.now c.loop-k.k)) (get_or_default c.args.lives.now c.loop-k.k _ nobody low)) c.in_ok-push.ensures.items
