use Rattle.std.proofs.Common.{◌≡◌, ◌<◌, ℕ, max, length, drop, map}
use Rattle.std.specs.Prelude.{slice_index}
use Rattle.unit_bound.specs.Units.{greatest_of}
use Rattle.overlap.specs.Lifetimes.{Use, uses_from}
use Rattle.rotating.proofs.values.uses.raise_carried.Given as goal

abbrev pub invariant-loop-q : goal.invariant-loop-q
invariant-loop-q l = (length l.table ≡ 256) × ((v : ℕ) → v < 256
    → max (slice_index l.table v) (greatest_of (map (λ (u : Use). u.distance) (uses_from v l.q (drop l.q l.innermost.statements))))
    ≡ max (slice_index l.initial.table v) (greatest_of (map (λ (u : Use). u.distance) (uses_from v 0 l.innermost.statements))))
