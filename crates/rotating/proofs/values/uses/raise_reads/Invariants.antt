use Rattle.std.proofs.Common.{◌≡◌, ◌<◌, ℕ, max, length, drop, map}
use Rattle.std.specs.Prelude.{slice_index}
use Rattle.unit_bound.specs.Units.{greatest_of}
use Rattle.overlap.specs.Lifetimes.{Use, read_at, uses_from}
use Rattle.rotating.proofs.values.uses.raise_reads.Given as goal

abbrev pub invariant-loop-q : goal.invariant-loop-q
invariant-loop-q l = (length l.carried ≡ 256) × (length l.lasts ≡ 256)
    × ((v : ℕ) → v < 256
    → max (slice_index l.carried v) (greatest_of (map (λ (u : Use). u.distance) (uses_from v l.q (drop l.q l.schedule.problem.loop.statements))))
    ≡ max (slice_index l.initial.carried v) (greatest_of (map (λ (u : Use). u.distance) (uses_from v 0 l.schedule.problem.loop.statements))))
    × ((v : ℕ) → v < 256
    → max (slice_index l.lasts v) (greatest_of (map (read_at l.schedule) (uses_from v l.q (drop l.q l.schedule.problem.loop.statements))))
    ≡ max (slice_index l.initial.lasts v) (greatest_of (map (read_at l.schedule) (uses_from v 0 l.schedule.problem.loop.statements))))
