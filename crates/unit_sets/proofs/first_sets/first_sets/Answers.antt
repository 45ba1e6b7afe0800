use Rattle.std.proofs.Common.{List, [], subst}
use Rattle.machine_data.specs.declared.alternative.Row.{Row}
use Rattle.std.specs.List.{flat_map}
use Rattle.unit_sets.specs.Fullest.{all_rows, sets_of, units_of}
use Rattle.unit_sets.specs.inner.Added.{IsAdded}
use Rattle.unit_sets.proofs.Added.{added-set}
use Rattle.unit_sets.proofs.first_sets.first_sets.Goals as goal

pub returns : goal.returns
returns g c =
    let operations : List (List (List Row)) = g.O.Offers.operations c.args.operations.now in
    let first : IsAdded [] (flat_map sets_of operations) c.push_sets.new.sets.items
    = subst (λ l. IsAdded l (flat_map sets_of operations) c.push_sets.new.sets.items) c.new-sets.ensures.items c.in_ok-push_sets.ensures in
    added-set [] c.push_sets.new.sets.items (flat_map sets_of operations) c.of_all.result (units_of (flat_map all_rows operations)) _ first c.of_all.ensures c.in_ok-push_new.ensures
