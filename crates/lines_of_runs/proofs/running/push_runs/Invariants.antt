use Rattle.std.proofs.Common.{◌≡◌, ◌++◌, take}
use Rattle.std.specs.List.{flat_map, zip}
use Rattle.loop_schedules.specs.Problems.{ProblemData}
use Rattle.loop_listings.specs.declared.listings.Row as row
use Rattle.lines_of_runs.specs.Runs.{choice_lines}
use Rattle.lines_of_runs.proofs.running.push_runs.Given as goal

abbrev pub invariant-loop-index : goal.invariant-loop-index
invariant-loop-index l =
    l.text.items ≡ l.initial.text.items ++ flat_map (λ (pair : ProblemData × row.Row). choice_lines l.fn.trip l.fn.listing.ceiling pair.0.loop pair.1 pair.1.choice) (take l.index (zip l.fn.prepared l.fn.listing.rows))
