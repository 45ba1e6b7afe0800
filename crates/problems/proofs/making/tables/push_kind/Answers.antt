use Rattle.std.proofs.Common.{◌≡◌, ◌++◌, ◌∷◌, [], map, take, length, vec_len, sym, ap, ◌∙◌, ◌+◌, subst, arith}
use Rattle.problems.specs.Drafts.{alternatives_of}
use Rattle.problems.specs.inner.Listed.{AreListed}
use Rattle.problems.proofs.made.Lists.{own-list}
use Rattle.problems.proofs.making.tables.push_kind.Goals as goal

pub returns : goal.returns
returns c =
    let lists = c.args.lists.now.items in
    let numbers = c.args.of_kinds.now.items in
    let kind = c.index-kinds-number.result in
    let all = map alternatives_of (take (c.args.number + 1) c.args.kinds.now) in
    let ok = c.args.lists.now.ok.0 in
    let size : vec_len c.args.lists.now ≡ length lists = omega arith in
    let more : c.push-2.new.self.items ≡ numbers ++ length lists ∷ [] = c.in_ok-push-2.ensures.items ∙ ap (λ n. numbers ++ n ∷ []) (c.len.ensures ∙ size) in
    let longer : c.push-3.new.self.items ≡ lists ++ alternatives_of kind ∷ [] = c.in_ok-push-3.ensures.items ∙ ap (λ t. lists ++ t ∷ []) c.in_ok-alternatives_of.ensures in
    subst (λ ls. AreListed ls c.push-2.new.self.items all) (sym longer)
    (subst (λ ns. AreListed (lists ++ alternatives_of kind ∷ []) ns all) (sym more)
    (own-list lists numbers c.args.kinds.now c.args.number kind c.requires.sofar c.requires.there c.index-kinds-number.is))
