use Rattle.std.proofs.Common.{◌≡◌, ◌<◌, ◌∙◌, ap, arith, length, slice_index_or}
use Rattle.loop_reader.specs.inner.Chains.{name_at, nothing}
use Rattle.loop_reader.proofs.lookups.Chains.{chain-low}
use Rattle.loop_reader.proofs.names.chains.Chains.clear.Goals as goal

pub index_mut-requires : goal.index_mut-requires
index_mut-requires c =
    let links = c.self.inside.links.items in
    let i = c.loop-link.link-index in
    let same : c.deref-link-items.result.now ≡ links = c.deref-link-items.ensures.value in
    let within : i < length links = omega (arith, ap length same) in
    let own = ap (λ ls. (slice_index_or ls i nothing).chain) same ∙ c.self.invariant.placed i within in
    omega (arith, own, chain-low (name_at links i), c.loop-link.invariant.size)
