use Rattle.std.proofs.Common.{map}
use Rattle.serde_json.specs.View.{view}
use Rattle.solution_json.specs.Operations.{read_register}
use Rattle.solution_json.specs.Parts.{register_object}
use Rattle.solution_json.proofs.Lists.{chosen_item-more}
use Rattle.solution_json.proofs.operations.told_reads.Goals as goal

pub loop-read-preserved : goal.loop-read-preserved
loop-read-preserved c =
    chosen_item-more (register_object c.args.solution.now.problem.draft) (read_register c.args.solution.now c.args.op) c.as_slice-reads.result.now c.loop-read.read-index
    (record { value = 0; reader = 0; distance = 0; offset = 0 }) (map view c.loop-read.values.items) (map view c.push_read.new.values.items) c.loop-read-test.true c.loop-read.invariant
    c.in_ok-push_read.ensures.ok
