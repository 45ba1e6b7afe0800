use Rattle.std.proofs.Common.{replicate}
use Rattle.mrt.proofs.slots.Masking.{IsBitTable-of}
use Rattle.mrt.proofs.bits.BitTable.over.Goals as goal

pub invariant_of-result : goal.invariant_of-result
invariant_of-result g c =
    let t = c.args.roster in
    let no_bits = c.in_ok-words.ensures.items_if_clones_equal (λ y h. h) in
    let sizes = c.sizes-width.result in
    let laid = rw c.ii.ensures.value at c.sizes-width.ensures.laid in
    let clear = rw c.ii.ensures.value at c.sizes-width.ensures.clear in
    rw no_bits (IsBitTable-of t (g.L.Layout.tells sizes.0 (replicate sizes.1 0)) c.requires clear, laid)
