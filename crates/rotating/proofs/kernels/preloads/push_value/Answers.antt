use Rattle.std.proofs.Common.{◌+◌, ◌-◌, ◌++◌, [], ◌∷◌, sym, ap, ◌∙◌, arith, append_assoc}
use Rattle.overlap.specs.Emission.{preloads_from}
use Rattle.rotating.proofs.emitted.Ranks.{preloads-more}
use Rattle.rotating.proofs.kernels.preloads.push_value.Goals as goal

pub loop-k-preserved : goal.loop-k-preserved
loop-k-preserved c =
    let s = c.args.schedule.now in
    let a = c.args.allotment.now in
    let v = c.args.value in
    let n = c.args.count in
    let k = c.loop-k.k in
    let i = c.loop-k.invariant in
    let len = c.push_reserved.ensures.len in
    let cap = c.push_reserved.ensures.capacity in
    let rest = preloads_from s a v (1 + (k + 1)) (n - (k + 1)) in
    let step = preloads-more s a v k n (omega arith) in (
      omega arith,
      omega arith,
      ap (λ xs. xs ++ rest) c.push_reserved.ensures.items ∙ append_assoc c.loop-k.list.items (c.preload_of.result ∷ []) rest
          ∙ ap (λ p. c.loop-k.list.items ++ (p ∷ rest)) c.preload_of.ensures
          ∙ ap (λ xs. c.loop-k.list.items ++ xs) (sym step) ∙ i.2,
    )
