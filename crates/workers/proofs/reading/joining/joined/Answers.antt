use Rattle.std.proofs.Common.{◌∙◌, ◌∷◌, length, ap, subst, arith}
use Rattle.std.specs.Vec.Iter.{into_iter_items}
use Rattle.workers.specs.inner.Pieces.{AreJoined, HasFault}
use Rattle.workers.proofs.Joins.{fault-here, fault-more, joined-all, joined-more, joined-none}
use Rattle.workers.proofs.reading.joining.joined.Goals as goal

pub loop-part-init : goal.loop-part-init
loop-part-init c =
    let same = ap length c.into_iter-parts.ensures.rest in
    let whole = c.args.read.ok.0 in
    record {
      joined = joined-none (into_iter_items c.into_iter-parts.result) c.new-loops.result.items c.new-loops.ensures.items;
      fault = λ h. h;
      long = omega (arith, c.into_iter-parts.ensures.len);
    }

pub loop-part-preserved : goal.loop-part-preserved
loop-part-preserved c =
    let all = into_iter_items c.into_iter-parts.result in
    let old = into_iter_items c.loop-part.parts in
    let left = into_iter_items c.next.new.self in
    let before = c.loop-part.invariant in
    let at = c.in-Some.ensures.items ∙ ap (λ part. part ∷ left) c.in-Ok.is in
    let long = ap length c.in-Some.ensures.items in
    record {
      joined = joined-more all old left c.loop-part.loops.items c.add_part.new.loops.items c.in-Ok.part before.joined at c.in_default-add_part.ensures;
      fault = fault-more all old left c.in-Ok.part before.fault at;
      long = omega (arith, c.in-Some.ensures.len, before.long);
    }

pub returns-in_default-part : goal.returns-in_default-part
returns-in_default-part c =
    let all = into_iter_items c.into_iter-parts.result in
    let left = into_iter_items c.next.new.self in
    let at = c.in-Some.ensures.items ∙ ap (λ part. part ∷ left) c.in_default-part.is in
    subst HasFault c.into_iter-parts.ensures.rest (fault-here all (into_iter_items c.loop-part.parts) left c.in_default-part.field-0 c.loop-part.invariant.fault at)

pub returns : goal.returns
returns c =
    let before = c.loop-part.invariant in
    let all = joined-all (into_iter_items c.into_iter-parts.result) (into_iter_items c.loop-part.parts) c.loop-part.loops.items before.joined (before.long ∙ c.in_default.ensures.cases.0) in
    subst (λ ps. AreJoined ps c.loop-part.loops.items) c.into_iter-parts.ensures.rest all
