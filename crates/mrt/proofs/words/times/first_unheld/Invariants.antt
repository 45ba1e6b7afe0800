-- In each cycle passed, below the limit, some slot is held.
use Rattle.std.proofs.Common.{◌≡◌, ℕ, ◌+◌, ◌-◌, ◌%◌, ◌<◌, Bool, true}
use Rattle.mrt.specs.inner.Slots.{rows_in, meets_held}
use Rattle.mrt.specs.inner.Times.{Tell}
use Rattle.mrt.proofs.words.times.first_unheld.Given as goal

abbrev pub invariant-loop-passed : goal.invariant-loop-passed
invariant-loop-passed l = record {
  below : l.at < l.ii;
  at : (time : ℕ) → time % l.ii ≡ l.base → (time + l.passed) % l.ii ≡ l.at;
  met : (held : ℕ → ℕ → Bool) (time sooner : ℕ) → Tell l.ii l.words l.times held → time % l.ii ≡ l.base → sooner < l.passed → sooner < l.limit
      → meets_held l.ii held (rows_in l.slots) (time + sooner) ≡ true;
}

abbrev pub decreases-loop-passed : goal.decreases-loop-passed
decreases-loop-passed l = l.limit - l.passed
