use Rattle.std.proofs.Common.{ℕ, List, length, ap, arith}
use Rattle.machine_data.specs.declared.alternative.Row.{Row}
use Rattle.std.specs.List.{Contains, flat_map}
use Rattle.unit_sets.specs.Fullest.{all_rows, first_sets as the_first_sets, sets_of, units_of}
use Rattle.std.proofs.lemmas.List.Elements.{Contains-push}
use Rattle.unit_sets.proofs.fullest.fullest_set.Goals as goal

pub fullest_of-requires-clause-some : goal.fullest_of-requires-clause-some
fullest_of-requires-clause-some g c =
    let operations : List (List (List Row)) = g.O.Offers.operations c.args.operations.now in
    let all : ℕ = units_of (flat_map all_rows operations) in
    let there : Contains (the_first_sets operations) all = Contains-push (flat_map sets_of operations) all in
    let k : Contains c.in_ok-sets.sets.items all = c.in_ok-sets.ensures.there all there in
    omega (arith, k.1, ap length c.as_slice.ensures.value)
