use Rattle.std.proofs.Common.{◌≡◌, ◌+◌, ◌-◌, ◌/◌, List, length, ap, ◌∙◌, subst, arith}
use Rattle.machine_data.specs.declared.alternative.Row.{Row}
use Rattle.unit_sets.specs.Fullest.{IsReached, units_in}
use Rattle.unit_sets.proofs.fullest.fullest_of.Goals as goal

pub returns : goal.returns
returns g c =
    let operations : List (List (List Row)) = g.O.Offers.operations c.args.operations.now in
    let end : c.loop-round._round ≡ 4 = omega (arith, c.loop-round-test.false, c.loop-round.auto._round-end) in
    record {
      reached = subst (λ n. IsReached n operations c.loop-round.best.units) end c.loop-round.invariant.reached;
      is_size = c.loop-round.invariant.rated.is_size;
      is_rows = c.loop-round.invariant.rated.is_rows;
      is_need = c.need_of.ensures ∙ ap (λ n. (c.loop-round.best.rows + (n - 1)) / n) c.loop-round.invariant.rated.is_size
          ∙ ap (λ r. (r + (length (units_in c.loop-round.best.units) - 1)) / length (units_in c.loop-round.best.units)) c.loop-round.invariant.rated.is_rows;
    }
