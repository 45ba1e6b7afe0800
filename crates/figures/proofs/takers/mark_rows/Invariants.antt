use Rattle.std.proofs.Common.{◌≡◌, ℕ, ◌<◌, take}
use Rattle.std.specs.Prelude.{if◌then◌else◌}
use Rattle.mrt.specs.Taken.{takes}
use Rattle.figures.specs.inner.Tables.{taker_in}
use Rattle.figures.proofs.takers.mark_rows.Given as goal

abbrev pub invariant-loop-held : goal.invariant-loop-held
invariant-loop-held l = (unit row : ℕ) → unit < 64 → row < l.ii
    → taker_in l.takers unit row ≡ (if takes l.ii (take l.held-index l.rows) l.time unit row then l.place else taker_in l.initial.takers unit row)
