use Rattle.std.proofs.Common.{◌≡◌, ℕ, ◌+◌, ◌%◌, ◌<◌, ◌≤◌, Bool, eqb, take}
use Rattle.std.specs.Int.{bit_at}
use Rattle.mrt.specs.inner.Slots.{rows_in, meets_held}
use Rattle.mrt.specs.inner.Times.{TellOnce}
use Rattle.mrt.proofs.words.rounds.free_cycles.Given as goal

-- of the first `cycles` cycles, a bit is set where some slot so far is held in its cycle, and each other bit is set
abbrev pub invariant-loop-slot : goal.invariant-loop-slot
invariant-loop-slot l = record {
  asked : (held : ℕ → ℕ → Bool) (time k : ℕ) → TellOnce l.ii l.rounds held → time % l.ii ≡ l.base → k < l.cycles
      → eqb (bit_at l.met k) 1 ≡ meets_held l.ii held (rows_in (take l.slot-index l.slots)) (time + k);
  rest : (k : ℕ) → k < 64 → l.cycles ≤ k → bit_at l.met k ≡ 1;
}
