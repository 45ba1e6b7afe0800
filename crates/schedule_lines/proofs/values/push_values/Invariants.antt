use Rattle.std.proofs.Common.{◌≡◌, ◌++◌, get_or}
use Rattle.std.specs.List.{flat_map, range_with_len}
use Rattle.rotating.specs.Crowds.{nobody}
use Rattle.schedule_lines.specs.ScheduleTexts.{value_line}
use Rattle.schedule_lines.proofs.values.push_values.Given as goal

abbrev pub invariant-loop-k : goal.invariant-loop-k
invariant-loop-k l = l.text.items ≡ l.initial.text.items ++ flat_map (λ k. value_line l.innermost (get_or l.lives k nobody) (get_or l.numbers k 0)) (range_with_len 0 l.k)
