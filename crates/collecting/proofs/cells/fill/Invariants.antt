use Rattle.std.proofs.Common.{◌≡◌, ◌+◌, ℕ, vec_len}
use Rattle.std.specs.Prelude.{◌||◌}
use Rattle.std.specs.List.{All, AllZip}
use Rattle.reports.specs.Entries.{ReportData, is_settled_in, mii_at}
use Rattle.collecting.specs.inner.Cells.{AreCellsOf, known_in, is_full}
use Rattle.collecting.proofs.cells.fill.Given as goal

abbrev pub invariant-loop-report : goal.invariant-loop-report
invariant-loop-report l = AllZip AreCellsOf l.loops l.rows × All (λ (r : ReportData). r.loops ≡ l.loops) l.reports.items
    × ((k above : ℕ) → (is_full (known_in l.rows k above) || is_settled_in l.reports.items k (mii_at l.loops k + above))
    ≡ (is_full (known_in l.fn.rows k above) || is_settled_in l.fn.reports.items k (mii_at l.loops k + above)))

abbrev pub decreases-loop-report : goal.decreases-loop-report
decreases-loop-report l = vec_len l.reports
