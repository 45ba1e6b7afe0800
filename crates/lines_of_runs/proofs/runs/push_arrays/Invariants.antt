use Rattle.std.proofs.Common.{◌≡◌, ℕ, ◌++◌, take}
use Rattle.std.specs.List.{enumerate_from, flat_map}
use Rattle.loop_data.specs.declared.language.lists.Array.{Array}
use Rattle.loop_data.specs.Run.{opening_of}
use Rattle.lines_of_runs.specs.Plain.{cell_lines}
use Rattle.lines_of_runs.proofs.runs.push_arrays.Given as goal

abbrev pub invariant-loop-number : goal.invariant-loop-number
invariant-loop-number l =
    l.text.items ≡ l.initial.text.items
    ++ flat_map (λ (a : ℕ × Array). cell_lines (opening_of l.innermost l.after.trip) l.after a.0 a.1.name) (take l.number (enumerate_from 0 l.innermost.arrays))
