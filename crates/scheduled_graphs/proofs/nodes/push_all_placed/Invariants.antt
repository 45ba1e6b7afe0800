use Rattle.std.proofs.Common.{◌≡◌, ◌++◌}
use Rattle.std.specs.Prelude.{slice_index}
use Rattle.std.specs.List.{flat_map, range_with_len}
use Rattle.scheduled_graphs.specs.Nodes.{placed_line}
use Rattle.scheduled_graphs.proofs.nodes.push_all_placed.Given as goal

abbrev pub invariant-loop-number : goal.invariant-loop-number
invariant-loop-number l = l.text.items ≡ l.initial.text.items
    ++ flat_map (λ number. placed_line l.schedule.problem.loop l.schedule.ii (slice_index l.schedule.times number) number) (range_with_len 0 l.number)
