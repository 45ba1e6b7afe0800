use Rattle.std.proofs.Common.{◌≡◌, ◌++◌, take}
use Rattle.std.specs.List.{flat_map}
use Rattle.lines_of_runs.specs.Plain.{plain_lines}
use Rattle.lines_of_runs.proofs.plain.push_loops.Given as goal

abbrev pub invariant-loop-innermost : goal.invariant-loop-innermost
invariant-loop-innermost l = l.text.items ≡ l.initial.text.items ++ flat_map (plain_lines l.trip) (take l.innermost-index l.loops)
