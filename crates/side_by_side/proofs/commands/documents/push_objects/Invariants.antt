use Rattle.std.proofs.Common.{◌≡◌, ◌++◌, take}
use Rattle.side_by_side.specs.inner.Objects.{objects_text}
use Rattle.side_by_side.proofs.commands.documents.push_objects.Given as goal

abbrev pub invariant-loop-row : goal.invariant-loop-row
invariant-loop-row l = l.text.items ≡ l.initial.text.items ++ objects_text l.listing.ceiling (take l.row-index l.rows)
