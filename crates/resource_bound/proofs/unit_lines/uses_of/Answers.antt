use Rattle.std.proofs.Common.{◌≡◌, ◌<◌, ◌++◌, length, take, sym, ap, ◌∙◌, subst, arith}
use Rattle.unit_bound.specs.Units.{chosen_rows}
use Rattle.graph.specs.Units.{operations_of}
use Rattle.unit_bound.specs.Uses.{Tallies}
use Rattle.graph.proofs.finding.Operations.{length-operations}
use Rattle.resource_bound.proofs.Chosen.{rows-more}
use Rattle.resource_bound.proofs.unit_lines.uses_of.Goals as goal

pub loop-number-preserved : goal.loop-number-preserved
loop-number-preserved c =
    let operations = operations_of c.args.machine.now c.args.innermost.now in
    let choices = c.args.choices.now in
    let n = c.loop-number.number in
    let r = c.with-uses.result in
    let long : length operations ≡ length c.args.innermost.now.statements = length-operations c.args.machine.now c.args.innermost.now in
    let each : length choices ≡ length c.args.innermost.now.statements = c.requires in
    let same = ap length c.statements-number-end.ensures.value in
    let within : n < length operations = omega arith in
    let there : n < length choices = omega arith in
    let rows = chosen_rows (take n operations) choices in (
      subst (λ l. Tallies l r.counts r.greatest) (ap (λ l. rows ++ l) c.rows_at.ensures.value ∙ sym (rows-more operations choices n within there)) (c.with-uses.ensures.tallied rows c.loop-number.invariant.0),
      λ unit. let g = c.with-uses.ensures.grown _ c.loop-number.invariant.1 unit in omega arith,
    )
