use Rattle.std.proofs.Common.{◌≡◌, ◌++◌}
use Rattle.variants.specs.inner.Told.{found_line}
use Rattle.variants.proofs.Zipped.{zipped_to}
use Rattle.variants.proofs.told.parts.push_variants.Given as goal

abbrev pub invariant-loop-index : goal.invariant-loop-index
invariant-loop-index l = l.text.items ≡ l.initial.text.items ++ zipped_to l.index (found_line l.machine l.standing) l.variants l.findings
