use Rattle.std.proofs.Common.{◌∙◌, map}
use Rattle.solution_reader.specs.Resolved.{place_told}
use Rattle.solution_reader.proofs.Each.{ahead_next, ahead_stops}
use Rattle.solution_reader.proofs.Told.{place_at}
use Rattle.solution_reader.proofs.resolve.places_of.Goals as goal

pub returns-in-None : goal.returns-in-None
returns-in-None c =
    let at = place_at c.args.ops.now c.args.names.now c.loop-number.number c.index-names-number.result c.as_bytes.result.now _ c.loop-number-test.true c.index-names-number.is (c.as_bytes.ensures.value ∙ c.as_str.ensures.value) c.in-None.ensures in
    ahead_stops (map (place_told c.args.ops.now) c.args.names.now) c.loop-number.places.items c.loop-number.number c.loop-number.invariant at.there at.is

pub loop-number-preserved : goal.loop-number-preserved
loop-number-preserved c =
    let at = place_at c.args.ops.now c.args.names.now c.loop-number.number c.index-names-number.result c.as_bytes.result.now _ c.loop-number-test.true c.index-names-number.is (c.as_bytes.ensures.value ∙ c.as_str.ensures.value) c.in-Some.ensures in
    ahead_next (map (place_told c.args.ops.now) c.args.names.now) c.loop-number.places.items c.push.new.self.items c.loop-number.number _ c.loop-number.invariant at.there at.is c.in_ok-push-in-Some.ensures.items
