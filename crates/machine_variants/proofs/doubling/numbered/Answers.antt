use Rattle.std.proofs.Common.{[], ◌∷◌, ◌++◌, sym, ap, ◌∙◌, arith}
use Rattle.std.proofs.lemmas.List.FromFn.{map-range_with_len_more}
use Rattle.machine_variants.specs.Variants.{numbered}
use Rattle.machine_variants.proofs.Names.{name_of}
use Rattle.machine_variants.proofs.doubling.numbered.Goals as goal

pub loop-number-preserved : goal.loop-number-preserved
loop-number-preserved c =
    let n = c.loop-number.number in
    c.in_ok-push.ensures.items ∙ ap (λ xs. xs ++ c.in_ok-numbered_name.field-0 ∷ []) c.loop-number.invariant ∙ ap (λ x. numbered n ++ x ∷ []) c.in_ok-numbered_name.ensures
    ∙ sym (map-range_with_len_more name_of 0 n n (omega arith))
