use Rattle.std.proofs.Common.{◌≡◌, map, take}
use Rattle.std.specs.List.{filter_map}
use Rattle.serde_json.specs.View.{view}
use Rattle.solution_json.specs.Operations.{read_register}
use Rattle.solution_json.specs.Parts.{register_object}
use Rattle.solution_json.proofs.operations.told_reads.Given as goal

abbrev pub invariant-loop-read : goal.invariant-loop-read
invariant-loop-read l = map view l.values.items ≡ map (register_object l.solution.problem.draft) (filter_map (read_register l.solution l.op) (take l.read-index l.reads))
