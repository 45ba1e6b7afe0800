use Rattle.std.proofs.Common.{List, ◌≤◌, length, subst, arith}
use Rattle.std.specs.List.{All}
use Rattle.machine_data.specs.declared.alternative.Row.{Row}
use Rattle.machine_data.specs.Alternative.{AreAlternatives}
use Rattle.unit_bound.specs.Units.{IsUnitBound}
use Rattle.schedules.proofs.problem.Problem.made.Goals as goal

pub invariant_of-result : goal.invariant_of-result
invariant_of-result c =
    let count : length c.args.edges.latencies ≤ 128 = c.operations.ensures.well_formed.few in
    let short = c.in_ok-recurrences.ensures.range in
    let same = c.as_slice.ensures.value in (
      record {
        graph = c.operations.ensures.well_formed;
        each_latency = c.requires.each;
        offered = subst (All AreAlternatives) same c.res_mii_of-resources.ensures.offered;
        unit_bound = subst (λ (os : List (List (List Row))). IsUnitBound os c.res_mii_of-resources.result) same c.res_mii_of-resources.ensures.exact;
        recurrence_bound = c.in_ok-recurrences.ensures.exact;
        resources_few = c.res_mii_of-resources.ensures.range;
        recurrences_few = omega arith;
        ratio_some = c.requires.ratio.0;
        ratio_few = c.requires.ratio.1;
        ceiling_few = c.requires.ceiling;
      },
      c.requires.kinds,
    )
