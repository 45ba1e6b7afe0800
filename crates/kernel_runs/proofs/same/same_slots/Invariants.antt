use Rattle.std.proofs.Common.{◌≡◌, ℕ, ◌<◌, [], length, get_or}
use Rattle.kernel_runs.proofs.same.same_slots.Given as goal

abbrev pub invariant-loop-slot : goal.invariant-loop-slot
invariant-loop-slot l =
    ((k : ℕ) → k < l.slot → get_or l.one.slots k [] ≡ get_or l.other.slots k [])
    × (0 < l.slot → (length l.one.slots ≡ 128) × (length l.other.slots ≡ 128))
