use Rattle.std.proofs.Common.{◌≡◌, map}
use Rattle.std.specs.Prelude.{slice_index}
use Rattle.std.specs.List.{range_with_len, slice_index_or}
use Rattle.registers.specs.Crowds.{nobody}
use Rattle.serde_json.specs.View.{view}
use Rattle.explain_json.specs.Kernels.{value_object}
use Rattle.explain_json.proofs.values.told_values.Given as goal

abbrev pub invariant-loop-k : goal.invariant-loop-k
invariant-loop-k l = map view l.values.items ≡ map (λ k. value_object (slice_index_or l.lives k nobody) (slice_index l.numbers k)) (range_with_len 0 l.k)
