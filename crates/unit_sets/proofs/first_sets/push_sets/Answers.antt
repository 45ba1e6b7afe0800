use Rattle.std.proofs.Common.{◌<◌, List, [], length, arith}
use Rattle.machine_data.specs.declared.alternative.Row.{Row}
use Rattle.unit_sets.specs.Fullest.{sets_of}
use Rattle.unit_sets.proofs.Added.{added-of}
use Rattle.unit_sets.proofs.first_sets.push_sets.Goals as goal

pub loop-number-preserved : goal.loop-number-preserved
loop-number-preserved g c =
    let operations : List (List (List Row)) = g.O.Offers.operations c.args.operations.now in
    let within : c.loop-number.number < length operations = omega (arith, c.loop-number-test.true, c.count-number-end.ensures) in
    added-of sets_of c.args.sets.now.items c.loop-number.sets.items operations c.alternatives.result.now c.loop-number.number [] _ within c.loop-number.invariant
    c.alternatives.ensures.value c.in_ok-push_sets_of.ensures
