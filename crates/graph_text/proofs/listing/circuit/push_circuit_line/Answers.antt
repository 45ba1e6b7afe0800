use Rattle.std.proofs.Common.{◌<◌, ◌++◌, length, rules, ap, arith}
use Rattle.std.proofs.lemmas.Grind.{common_steps}
use Rattle.std.proofs.lemmas.Result.{IfOk-equal}
use Rattle.graph_text.specs.CircuitLines.{circuit_line, sums_line}
use Rattle.graph_text.proofs.CircuitSums.{line-of_sums}
use Rattle.graph_text.proofs.listing.circuit.push_circuit_line.Goals as goal

pub returns : goal.returns
returns c =
    let old = c.args.text.now.items in
    let some : 0 < length c.args.circuit.now = first_of (omega arith, search rules, grind (arith, common_steps, c.is_empty.ensures, c.if-is_empty.false)) in
    record {
      ok = IfOk-equal c.push_sums_line.result c.push_sums_line.new.text.items (old ++ sums_line c.sums_of.result.delay c.sums_of.result.distance c.args.bound)
          (old ++ circuit_line c.args.circuit.now c.args.bound) c.push_sums_line.ensures.ok
          (ap (λ t. old ++ t) (line-of_sums c.args.circuit.now c.args.bound c.sums_of.result.distance c.sums_of.result.delay some c.sums_of.ensures.delay c.sums_of.ensures.distance));
    }
