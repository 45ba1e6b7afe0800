use Rattle.std.proofs.Common.{◌≡◌, ◌∙◌, ◌+◌, ◌++◌, ◌∷◌, [], ℕ, Some, ap, arith, cond, filter, not, sym}
use Rattle.std.specs.List.{range_with_len}
use Rattle.loop_lint.specs.inner.Tables.{flag_of}
use Rattle.loop_lint.proofs.Hinting.{filter_more}
use Rattle.loop_lint.proofs.hints.numbers_missing.Goals as goal

pub loop-before-preserved : goal.loop-before-preserved
loop-before-preserved c =
    let p = λ (n : ℕ). not (flag_of c.args.known.now.inits (Some n)) in
    let before = c.loop-before.before in
    let same : before + 1 ≡ 1 + before = omega arith in
    c.in_ok-add_missing.ensures
    ∙ ap (λ ns. ns ++ cond (p (before + 1)) ((before + 1) ∷ []) []) c.loop-before.invariant
    ∙ ap (λ k. filter p (range_with_len 1 before) ++ cond (p k) (k ∷ []) []) same
    ∙ sym (filter_more p 1 before)
