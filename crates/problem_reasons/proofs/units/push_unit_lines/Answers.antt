use Rattle.std.proofs.Common.{◌≡◌, ℕ, List, ◌++◌, ap, ◌∙◌}
use Rattle.machine_data.specs.declared.alternative.Row.{Row}
use Rattle.unit_bound.specs.Units.{chosen_rows, use_of}
use Rattle.schedules.specs.Problems.{ProblemData as SchedulingData}
use Rattle.lower_bounds.proofs.Texts.{numbered-more}
use Rattle.problem_reasons.specs.Units.{line_with, unit_line}
use Rattle.problem_reasons.proofs.units.push_unit_lines.Goals as goal

pub loop-unit-preserved : goal.loop-unit-preserved
loop-unit-preserved c =
    let p = c.args.problem.now in
    let choices = c.args.choices.now in
    let unit = c.loop-unit.unit in
    let before : List ℕ = c.loop-unit.text.items in
    let operations : c.alternatives-operations.result.now ≡ p.scheduling.operations
    = c.alternatives-operations.ensures.value ∙ ap (λ (s : SchedulingData). s.operations) c.scheduling.ensures.value in
    let uses : c.use_of-uses.result ≡ use_of (chosen_rows p.scheduling.operations choices) unit
    = c.use_of-uses.ensures ∙ ap (λ (all : List (List (List Row))). use_of (chosen_rows all choices) unit) operations in
    numbered-more (unit_line p choices) c.args.text.now.items before c.push_unit_line.new.text.items unit c.loop-unit.invariant
    (c.in_ok-push_unit_line.ensures.ok ∙ ap (λ (n : ℕ). before ++ line_with p choices unit n) uses)
