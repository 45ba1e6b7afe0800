use Rattle.std.proofs.Common.{◌∙◌, pos, refl, sym, subst}
use Rattle.std.proofs.lemmas.List.{take_all}
use Rattle.edges.specs.Edges.{EdgeData}
use Rattle.circuits.proofs.Returns.{GoesOnOnce, once-more, return-found}
use Rattle.circuits.proofs.above.first_return.Goals as goal

pub returns-in-Some : goal.returns-in-Some
returns-in-Some c =
    let d : EdgeData = record { from = 0; to = 0; distance = 0; delay = pos 0 } in
    return-found c.args.walk.now c.in-Some.begin c.loop-end.end d _ c.loop-end-test.true refl c.loop-end.invariant (sym c.place_of.ensures ∙ c.in-Some.is)

pub loop-end-preserved : goal.loop-end-preserved
loop-end-preserved c =
    let d : EdgeData = record { from = 0; to = 0; distance = 0; delay = pos 0 } in
    once-more c.args.walk.now c.loop-end.end d _ c.loop-end-test.true refl c.loop-end.invariant (sym c.place_of.ensures ∙ c.in_default.is)

pub returns : goal.returns
returns c = subst GoesOnOnce (take_all c.loop-end.end c.args.walk.now c.loop-end-test.false) c.loop-end.invariant
