use Rattle.std.proofs.Common.{◌≡◌, ◌++◌, take}
use Rattle.std.specs.List.{flat_map}
use Rattle.solution_text.specs.Operations.{hold_text}
use Rattle.solution_text.proofs.operations.push_holds.Given as goal

abbrev pub invariant-loop-row : goal.invariant-loop-row
invariant-loop-row l = l.text.items ≡ l.initial.text.items ++ flat_map (hold_text l.draft) (take l.row-index l.rows)
