use Rattle.std.proofs.Common.{rules, arith, ◌≡◌, ◌<◌, ◌++◌, ◌∷◌, [], length, get_or, ◌∙◌, ap, if◌then◌else◌, Some, None, refl}
use Rattle.std.proofs.lemmas.List.{get_or_read}
use Rattle.std.specs.Option.{option_or}
use Rattle.machine_data.specs.Opcodes.{same_word}
use Rattle.loop_reader.specs.inner.Chains.{chained_as}
use Rattle.loop_reader.specs.declared.names.chains.Link.{Link}
use Rattle.loop_reader.proofs.lookups.Chains.{chain-low, chained-more, chained-added}
use Rattle.loop_reader.proofs.names.chains.Chains.add.Goals as goal

pub index-before-requires : goal.index-before-requires
index-before-requires c = let size = c.self.invariant.size in omega (arith, size, c.requires.chain, chain-low c.args.name.now)

pub index-requires : goal.index-requires
index-requires c =
    let size = c.self.invariant.size in
    let low : c.args.chain < length c.self.inside.latest.items = omega (arith, size, c.requires.chain, chain-low c.args.name.now) in
    let read = get_or_read c.self.inside.latest.items c.args.chain _ low c.index-before.ensures 0 in
    let within = (c.self.invariant.latest_is c.args.chain (omega (arith, c.requires.chain, chain-low c.args.name.now))).within in
    omega (arith, read, within, c.if-before-eq0.false)

pub index_mut-requires : goal.index_mut-requires
index_mut-requires c = let size = c.self.invariant.size in omega (arith, size, c.requires.chain, chain-low c.args.name.now)

pub invariant_of-self-2 : goal.invariant_of-self-2
invariant_of-self-2 c =
    let links = c.self.inside.links.items in
    let latest = c.self.inside.latest.items in
    let size = c.self.invariant.size in
    let low : c.args.chain < length latest = omega (arith, size, c.requires.chain, chain-low c.args.name.now) in
    let link : Link = record { name = c.args.name; what = c.args.what; chain = c.args.chain; before = c.index-before.result.now; depth = c.if-before-eq0.depth } in
    let items : c.push.new.self.items ≡ links ++ link ∷ [] = c.in_ok-push.ensures.items in
    let n : c.len.result ≡ length c.push.new.self.items = search rules in
    let before : c.index-before.result.now ≡ get_or latest c.args.chain 0 = get_or_read latest c.args.chain _ low c.index-before.ensures 0 in
    let none = ap (λ ls. chained_as ls c.args.name.now) c.self.view_is ∙ c.requires.absent in
    rw n (rw items (chained-more links latest link c.args.chain c.requires.chain (omega (arith, c.requires.chain, chain-low c.args.name.now)) refl before none c.self.invariant))

pub returns : goal.returns
returns c = λ q.
    let links = c.self.inside.links.items in
    let was = c.self.view_is in
    let none = ap (λ ls. chained_as ls c.args.name.now) was ∙ c.requires.absent in
    ap (λ ls. chained_as ls q) c.in_ok-push.ensures.items
    ∙ chained-added links _ q none
    ∙ ap (λ ls. option_or (chained_as ls q) (if same_word q c.args.name.now then Some c.args.what else None)) was
