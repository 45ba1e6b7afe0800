use Rattle.std.proofs.Common.{◌≡◌, map}
use Rattle.serde_json.specs.View.{view}
use Rattle.variants.specs.inner.Told.{found_object}
use Rattle.variants.proofs.Zipped.{zipped_to}
use Rattle.variants.proofs.told.values.told_variants.Given as goal

abbrev pub invariant-loop-index : goal.invariant-loop-index
invariant-loop-index l = map view l.values.items ≡ zipped_to l.index (found_object l.machine l.standing) l.variants l.findings
