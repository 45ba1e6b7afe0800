use Rattle.std.proofs.Common.{map}
use Rattle.serde_json.specs.View.{view}
use Rattle.solution_json.specs.Operations.{write_register}
use Rattle.solution_json.specs.Parts.{register_object}
use Rattle.solution_json.proofs.Lists.{chosen_number-more}
use Rattle.solution_json.proofs.operations.told_writes.Goals as goal

pub loop-value-preserved : goal.loop-value-preserved
loop-value-preserved c =
    chosen_number-more (register_object c.args.solution.now.problem.draft) (write_register c.args.solution.now c.args.op) c.loop-value.value (map view c.loop-value.values.items)
    (map view c.push_write.new.values.items) c.loop-value.invariant c.in_ok-push_write.ensures.ok
