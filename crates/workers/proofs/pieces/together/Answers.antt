use Rattle.std.proofs.Common.{◌≡◌, ◌∙◌, ◌∷◌, ◌++◌, [], ap, subst, rules, sym}
use Rattle.std.specs.Vec.Iter.{into_iter_items}
use Rattle.workers.specs.inner.Made.{AreTogether}
use Rattle.workers.proofs.Together.{together-all, together-more}
use Rattle.workers.proofs.pieces.together.Goals as goal

pub loop-one-preserved : goal.loop-one-preserved
loop-one-preserved g c =
    let at = c.in-Some.ensures.items ∙ ap (λ one. one ∷ into_iter_items c.next.new.self) c.in-Some-one.is in
    let named : c.add_part.new.names.items ≡ c.loop-one.names.items ++ c.in-Some-one.more.items = search rules in
    let told : c.add_part.new.parts.items ≡ c.loop-one.parts.items ++ c.in-Some-one.part ∷ [] = search rules in
    record {
      together = together-more (into_iter_items c.into_iter-rest.result) (into_iter_items c.loop-one.rest) (into_iter_items c.next.new.self) c.loop-one.names.items c.add_part.new.names.items
          c.loop-one.parts.items c.add_part.new.parts.items c.in-Some-one.field-0 c.loop-one.invariant.together at
          (named ∙ ap (λ v. c.loop-one.names.items ++ v.items) (sym c.in-Some-one.more-is)) (told ∙ ap (λ p. c.loop-one.parts.items ++ p ∷ []) (sym c.in-Some-one.part-is));
      long = search rules;
    }

pub returns : goal.returns
returns g c =
    let before = c.loop-one.invariant in
    let all = together-all (into_iter_items c.into_iter-rest.result) (into_iter_items c.loop-one.rest) c.loop-one.names.items c.loop-one.parts.items before.together
    (before.long ∙ c.in_default.ensures.cases.0) in
    subst (λ ms. AreTogether ms c.loop-one.names.items c.loop-one.parts.items) c.into_iter-rest.ensures.rest all
