use Rattle.std.proofs.Common.{◌≡◌, map, take}
use Rattle.smallvec.specs.SmallVec.{SmallVec}
use Rattle.problems.specs.declared.draft.Hold.{Hold}
use Rattle.problem_reader.proofs.copies.alternatives_of.Given as goal

abbrev pub invariant-loop-rows : goal.invariant-loop-rows
invariant-loop-rows l = map (λ (rows : SmallVec Hold). rows.items) l.copies.items ≡ map (λ (rows : SmallVec Hold). rows.items) (take l.rows-index l.alternatives)
