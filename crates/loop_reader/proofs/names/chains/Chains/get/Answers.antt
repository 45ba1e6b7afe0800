use Rattle.std.proofs.Common.{◌<◌, length, arith, subst, get_or}
use Rattle.std.proofs.lemmas.List.{get_or_read}
use Rattle.loop_reader.specs.inner.Chains.{IsLatest}
use Rattle.loop_reader.proofs.lookups.Chains.{chain-low}
use Rattle.loop_reader.proofs.names.chains.Chains.get.Goals as goal

pub index-requires : goal.index-requires
index-requires c = let size = c.self.invariant.size in omega (arith, size, c.requires, chain-low c.args.name.now)

pub find-requires-clause-latest : goal.find-requires-clause-latest
find-requires-clause-latest c =
    let size = c.self.invariant.size in
    let low : c.args.chain < length c.self.inside.latest.items = omega (arith, size, c.requires, chain-low c.args.name.now) in
    let read = get_or_read c.self.inside.latest.items c.args.chain _ low c.index.ensures 0 in
    rw c.as_slice.ensures.value (rw read (subst (λ b. IsLatest c.self.inside.links.items (length c.self.inside.links.items) b (get_or c.self.inside.latest.items c.args.chain 0)) c.requires (c.self.invariant.latest_is c.args.chain (omega (arith, c.requires, chain-low c.args.name.now)))))
