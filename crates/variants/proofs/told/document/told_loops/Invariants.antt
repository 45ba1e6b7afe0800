use Rattle.std.proofs.Common.{◌≡◌, [], ◌∷◌, map}
use Rattle.serde_json.specs.View.{view}
use Rattle.variants.specs.inner.Told.{part_object}
use Rattle.variants.proofs.Zipped.{zipped_to}
use Rattle.variants.proofs.told.document.told_loops.Given as goal

abbrev pub invariant-loop-index : goal.invariant-loop-index
invariant-loop-index l = map view l.values.items ≡ zipped_to l.index (λ p found. part_object l.machine l.variants p found ∷ []) l.prepared l.loops
