use Rattle.std.proofs.Common.{◌≡◌, ◌<◌, ◌≤◌, ℕ}
use Rattle.std.specs.Prelude.{slice_index}
use Rattle.overlap.specs.Allotments.{allotted_number}
use Rattle.overlap.specs.Lifetimes.{rank_of}
use Rattle.rotating.proofs.kernels.naming.fill_numbers.Given as goal

abbrev pub invariant-loop-q : goal.invariant-loop-q
invariant-loop-q l = (l.rank ≤ l.q) × (l.rank ≡ rank_of l.schedule.problem.loop l.q) × ((k : ℕ) → k < l.q → slice_index l.table k ≡ allotted_number l.schedule.problem.loop l.allotment k)
