use Rattle.std.proofs.Common.{◌≡◌}
use Rattle.std.specs.Prelude.{filter, is_none}
use Rattle.std.specs.List.{range_with_len}
use Rattle.mrt.specs.Placements.{placement_of}
use Rattle.modulo.proofs.outcome.answers.unplaced.Given as goal

abbrev pub invariant-loop-op : goal.invariant-loop-op
invariant-loop-op l = l.ops.items ≡ filter (λ op. is_none (placement_of l.progress.state.placed op)) (range_with_len 0 l.op)
