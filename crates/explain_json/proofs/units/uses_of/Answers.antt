use Rattle.std.proofs.Common.{◌≡◌, ℕ, ◌+◌, [], ◌∷◌, ap, ◌∙◌, arith}
use Rattle.std.specs.List.{range_with_len, sum_by}
use Rattle.std.proofs.lemmas.List.Sums.{sum_by-append, sum_by-cons}
use Rattle.lower_bounds.proofs.Texts.{numbers-push}
use Rattle.explain_json.specs.Units.{use_by}
use Rattle.explain_json.proofs.units.uses_of.Goals as goal

pub loop-op-preserved : goal.loop-op-preserved
loop-op-preserved c =
    let f : ℕ → ℕ = use_by c.args.prepared.now c.args.choices.now c.args.unit in
    let k = c.loop-op.op in
    let more : sum_by f (range_with_len 0 (k + 1)) ≡ sum_by f (range_with_len 0 k) + sum_by f (k ∷ []) = ap (sum_by f) (numbers-push k) ∙ sum_by-append f (range_with_len 0 k) (k ∷ []) in
    let one : sum_by f (k ∷ []) ≡ f k + 0 = sum_by-cons f k [] in
    record {
      sum = omega (arith, more, one, c.use_by-uses.ensures.value, c.loop-op.invariant.sum);
      few = omega (arith, c.use_by-uses.ensures.few, c.loop-op.invariant.few);
    }
