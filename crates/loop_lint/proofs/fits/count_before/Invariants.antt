use Rattle.std.proofs.Common.{◌≡◌, ◌==◌, ◌<◌, ℕ, false, get_or}
use Rattle.loop_lint.proofs.fits.count_before.Given as goal

-- none of the bytes so far has the value
abbrev pub invariant-loop-i : goal.invariant-loop-i
invariant-loop-i l = (k : ℕ) → k < l.i → (get_or l.text k 0 == l.byte) ≡ false
