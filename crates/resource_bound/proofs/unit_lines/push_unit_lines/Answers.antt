use Rattle.std.proofs.Common.{◌≡◌, ◌<◌, ◌≤◌, List, ◌++◌, length, get_or, ap, ◌∙◌, arith}
use Rattle.machine_data.specs.declared.alternative.Row.{Row}
use Rattle.unit_bound.specs.Units.{chosen_rows, greatest_use, use_of}
use Rattle.graph.specs.Units.{operations_of}
use Rattle.lower_bounds.proofs.Texts.{numbered-more}
use Rattle.resource_bound.specs.UnitLines.{line_with, unit_line}
use Rattle.resource_bound.proofs.unit_lines.push_unit_lines.Goals as goal

pub loop-unit-preserved : goal.loop-unit-preserved
loop-unit-preserved c =
    let machine = c.args.machine.now in
    let loop = c.args.innermost.now in
    let choices = c.args.choices.now in
    let rows : List Row = chosen_rows (operations_of machine loop) choices in
    let unit = c.loop-unit.unit in
    let here = c.loop-unit.text.items in
    let few : length machine.units ≤ 64 = c.units-unit-end.ensures.well_formed.units_few in
    let same = ap length c.units-unit-end.ensures.value in
    let below : unit < 64 = omega arith in
    let uses : get_or c.uses_of-tally.result.counts unit 0 ≡ use_of rows unit = c.uses_of-tally.ensures.each unit below in
    let most : c.uses_of-tally.result.greatest ≡ greatest_use rows = c.uses_of-tally.ensures.most in
    numbered-more (unit_line machine loop choices) c.args.text.now.items here c.push_unit_line.new.text.items unit c.loop-unit.invariant
    (c.in_ok-push_unit_line.ensures.ok
    ∙ ap (λ n. here ++ line_with machine loop choices unit n c.uses_of-tally.result.greatest) uses
    ∙ ap (λ n. here ++ line_with machine loop choices unit (use_of rows unit) n) most)
