use Rattle.std.proofs.Common.{◌≡◌, ◌++◌}
use Rattle.std.specs.Prelude.{slice_index}
use Rattle.std.specs.List.{flat_map, range_with_len}
use Rattle.problem_graphs.specs.Scheduled.{placed_line}
use Rattle.problem_graphs.proofs.scheduled.push_all_placed.Given as goal

abbrev pub invariant-loop-op : goal.invariant-loop-op
invariant-loop-op l = l.text.items ≡ l.initial.text.items ++ flat_map (λ op. placed_line l.draft l.solution.ii (slice_index l.solution.times op) op) (range_with_len 0 l.op)
