use Rattle.std.proofs.Common.{◌≡◌, ◌<◌, ℕ, false, get_or, leb}
use Rattle.loop_lint.specs.declared.lacks.NoTable.{NoTable}
use Rattle.loop_lint.proofs.lacks.count_before.Given as goal

-- none of those so far is of this line or a later one
abbrev pub invariant-loop-i : goal.invariant-loop-i
invariant-loop-i l = (k : ℕ) (d : NoTable) → k < l.i → leb l.line (get_or l.lacks k d).line ≡ false
