use Rattle.std.proofs.Common.{◌≡◌, ◌++◌}
use Rattle.variants.specs.inner.Told.{part_text}
use Rattle.variants.proofs.Zipped.{zipped_to}
use Rattle.variants.proofs.told.parts.push_parts.Given as goal

abbrev pub invariant-loop-index : goal.invariant-loop-index
invariant-loop-index l = l.text.items ≡ l.initial.text.items ++ zipped_to l.index (part_text l.machine l.variants) l.prepared l.loops
