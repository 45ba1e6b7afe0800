use Rattle.std.proofs.Common.{[], ◌∷◌, ◌++◌, map, sym, ap, ◌∙◌, append_assoc, arith}
use Rattle.std.specs.List.{range_with_len}
use Rattle.std.proofs.lemmas.List.FromFn.{map-range_with_len_more}
use Rattle.machine_variants.specs.declared.variant.Variant.TheVariants.{Doubled}
use Rattle.machine_variants.proofs.variant.push_doubled.Goals as goal

pub loop-unit-preserved : goal.loop-unit-preserved
loop-unit-preserved c =
    let n = c.loop-unit.unit in
    let old = c.args.list.now.items in
    c.in_ok-push.ensures.items ∙ ap (λ xs. xs ++ Doubled n ∷ []) c.loop-unit.invariant ∙ append_assoc old (map Doubled (range_with_len 0 n)) (Doubled n ∷ [])
    ∙ ap (λ xs. old ++ xs) (sym (map-range_with_len_more Doubled 0 n n (omega arith)))
