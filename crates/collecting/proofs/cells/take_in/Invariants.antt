use Rattle.std.proofs.Common.{◌≡◌, ◌+◌, ℕ, vec_len}
use Rattle.std.specs.Prelude.{◌||◌}
use Rattle.std.specs.List.{All, AllZip, list_any}
use Rattle.reports.specs.Entries.{IsEntry, settles, mii_at}
use Rattle.collecting.specs.inner.Cells.{AreCellsOf, known_in, is_full}
use Rattle.collecting.proofs.cells.take_in.Given as goal

abbrev pub invariant-loop-entry : goal.invariant-loop-entry
invariant-loop-entry l = AllZip AreCellsOf l.loops l.rows × All (IsEntry l.loops) l.entries.items
    × ((k above : ℕ) → (is_full (known_in l.rows k above) || list_any (settles k (mii_at l.loops k + above)) l.entries.items)
    ≡ (is_full (known_in l.fn.rows k above) || list_any (settles k (mii_at l.loops k + above)) l.fn.report.entries))

abbrev pub decreases-loop-entry : goal.decreases-loop-entry
decreases-loop-entry l = vec_len l.entries
