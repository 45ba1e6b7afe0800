use Rattle.std.specs.Prelude.{codes}
use Rattle.serde_json.specs.Data.{put}
use Rattle.solution_json.specs.Outcomes.{head_members, met_object}
use Rattle.solution_json.specs.Solutions.{solution_object}
use Rattle.solution_json.proofs.outcome.told_met.Goals as goal

pub returns : goal.returns
unfolding met_object
returns c =
    let head = head_members c.args.name.now c.args.problem.now c.args.circuit.now c.args.units.now in
    let solution = solution_object c.args.solution.now in
    c.object_of.ensures (put (codes "solution") solution head) (c.with.ensures head solution c.head_of-head.ensures c.told_solution-solution.ensures)
