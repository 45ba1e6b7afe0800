use Rattle.std.proofs.Common.{◌≡◌, ◌+◌, ◌<◌, ℕ, true, false, get_or}
use Rattle.loop_lint.proofs.block.Known.covers.Given as goal

-- the initial values so far are there
abbrev pub invariant-loop-before : goal.invariant-loop-before
invariant-loop-before l = (k : ℕ) → k < l.before → get_or l.self.inits (k + 1) false ≡ true
