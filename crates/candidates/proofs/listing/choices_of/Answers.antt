use Rattle.std.proofs.Common.{◌+◌, ◌∙◌, ◌++◌, ◌∷◌, [], List, take, sym, ap, subst, arith}
use Rattle.std.specs.List.{AllZip}
use Rattle.std.proofs.lemmas.List.{take_all, take_more}
use Rattle.loop_schedules.specs.Problems.{ProblemData}
use Rattle.candidates.specs.Choices.{IsChoice}
use Rattle.loop_listings.specs.declared.choices.Choice.{Choice}
use Rattle.candidates.proofs.Listed.{choices_more}
use Rattle.candidates.proofs.listing.choices_of.Goals as goal

pub loop-prepared-init : goal.loop-prepared-init
loop-prepared-init c = record {
  zip = subst (λ (cs : List Choice). AllZip IsChoice [] cs) (sym c.in_ok-choices.ensures.items) tt;
  long = c.in_ok-choices.ensures.len;
  room = omega (arith, c.in_ok-choices.ensures.capacity);
}

pub loop-prepared-preserved : goal.loop-prepared-preserved
loop-prepared-preserved c =
    let i = c.loop-prepared.prepared-index in
    let loops = take i c.args.loops.now in
    let one = c.prepared-item.result in
    let before = c.loop-prepared.invariant in
    let added = take_more c.args.loops.now i one c.loop-prepared-test.true ∙ ap (λ (o : ProblemData). loops ++ o ∷ []) (sym c.prepared-item.is) in
    record {
      zip = subst (λ (cs : List Choice). AllZip IsChoice (take (i + 1) c.args.loops.now) cs) (sym c.push_reserved.ensures.items)
          (choices_more loops (take (i + 1) c.args.loops.now) c.loop-prepared.choices.items one c.in-Ok.choice before.zip c.in-Ok.ensures.exact added);
      long = omega (arith, c.push_reserved.ensures.len, before.long);
      room = omega (arith, c.push_reserved.ensures.capacity, before.room);
    }

pub returns : goal.returns
returns c = subst (λ (ps : List ProblemData). AllZip IsChoice ps c.loop-prepared.choices.items) (take_all c.loop-prepared.prepared-index c.args.loops.now c.loop-prepared-test.false) c.loop-prepared.invariant.zip
