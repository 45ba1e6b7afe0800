use Rattle.std.proofs.Common.{◌≡◌, map, take}
use Rattle.smallvec.specs.SmallVec.{SmallVec}
use Rattle.problems.specs.declared.draft.Hold.{Hold}
use Rattle.problems.specs.Drafts.{row_of}
use Rattle.problems.proofs.making.tables.alternatives_of.Given as goal

abbrev pub invariant-loop-rows : goal.invariant-loop-rows
invariant-loop-rows l = l.list.items ≡ map (λ (rows : SmallVec Hold). map row_of rows.items) (take l.rows-index l.kind.alternatives.items)
