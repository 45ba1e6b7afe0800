use Rattle.std.proofs.Common.{◌≡◌, map, take}
use Rattle.serde_json.specs.View.{view}
use Rattle.solution_json.specs.Operations.{hold_object}
use Rattle.solution_json.proofs.operations.told_rows.Given as goal

abbrev pub invariant-loop-row : goal.invariant-loop-row
invariant-loop-row l = map view l.values.items ≡ map (hold_object l.draft) (take l.row-index l.rows)
