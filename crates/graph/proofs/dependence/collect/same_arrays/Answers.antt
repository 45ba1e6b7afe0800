use Rattle.std.proofs.Common.{rules, ◌≡◌, ◌-◌, ◌<◌, ◌≤◌, length, refl, ◌∙◌, arith, Some}
use Rattle.std.proofs.Math.ListN.{length-set}
use Rattle.std.proofs.lemmas.List.{get_or-replicate}
use Rattle.std.proofs.lemmas.Option.{slice_get_read}
use Rattle.std.specs.List.{slice_get}
use Rattle.graph.proofs.finding.SameArrays.{linked_end, linked-passed, linked-more}
use Rattle.graph.proofs.dependence.collect.same_arrays.Goals as goal

pub loop-i-init : goal.loop-i-init
loop-i-init c = record {
  firsts = refl;
  nexts = refl;
  within = omega arith;
  linked = linked_end c.args.statements.now (length c.args.statements.now) _ _ refl (λ array below. get_or-replicate 256 array (length c.args.statements.now) 0 below);
}

pub loop-i-preserved-in-Some : goal.loop-i-preserved-in-Some
loop-i-preserved-in-Some c =
    let some : 0 < c.loop-i.i = c.loop-i-test.true in
    let within : c.loop-i.i ≤ length c.args.statements.now = c.loop-i.invariant.within in
    let few : length c.args.statements.now ≤ 128 = c.requires.few in
    let nexts : length c.loop-i.next ≡ 128 = c.loop-i.invariant.nexts in
    let array : c.in-Some.place.array < 256 = search rules in
    let at : slice_get c.args.statements.now (c.loop-i.i - 1) ≡ Some c.index-statements-i.result
    = slice_get_read c.args.statements.now (length c.args.statements.now) (c.loop-i.i - 1) c.index-statements-i.result refl (omega arith) c.index-statements-i.is in
    record {
      firsts = length-set c.loop-i.first _ _ ∙ c.loop-i.invariant.firsts;
      nexts = length-set c.loop-i.next _ _ ∙ nexts;
      within = omega arith;
      linked = linked-more c.args.statements.now (c.loop-i.i - 1) c.loop-i.i c.loop-i.first c.loop-i.next c.index-statements-i.result c.in-Some.place
          (omega arith) at c.in-Some.is array c.loop-i.invariant.firsts (omega arith) c.loop-i.invariant.linked;
    }

pub loop-i-preserved : goal.loop-i-preserved
loop-i-preserved c =
    let some : 0 < c.loop-i.i = c.loop-i-test.true in
    let within : c.loop-i.i ≤ length c.args.statements.now = c.loop-i.invariant.within in
    let at : slice_get c.args.statements.now (c.loop-i.i - 1) ≡ Some c.index-statements-i.result
    = slice_get_read c.args.statements.now (length c.args.statements.now) (c.loop-i.i - 1) c.index-statements-i.result refl (omega arith) c.index-statements-i.is in
    record {
      firsts = c.loop-i.invariant.firsts;
      nexts = c.loop-i.invariant.nexts;
      within = omega arith;
      linked = linked-passed c.args.statements.now (c.loop-i.i - 1) c.loop-i.i c.loop-i.first c.loop-i.next c.index-statements-i.result (omega arith) at c.in_default.is c.loop-i.invariant.linked;
    }
