use Rattle.std.proofs.Common.{◌≡◌, ◌<◌, ℕ, length, get_or}
use Rattle.loop_schedules.specs.Problems.{ProblemData}
use Rattle.loop_listings.specs.declared.listings.Row as row
use Rattle.lines_of_runs.specs.Runs.{choice_lines}
use Rattle.text_parts.specs.declared.part.Part.{Part}
use Rattle.shared_runs.proofs.runs.parts_in_order.Given as goal

abbrev pub invariant-loop-number : goal.invariant-loop-number
invariant-loop-number g l = record {
  many : length l.parts.items ≡ l.number;
  told : (k : ℕ) (d : ProblemData) (e : row.Row) (f : Part) → k < l.number → (get_or l.parts.items k f).text.items ≡ choice_lines l.trip l.listing.ceiling (get_or l.prepared k d).loop (get_or l.listing.rows k e) (get_or l.listing.rows k e).choice;
}
