use Rattle.std.proofs.Common.{◌≡◌, ◌<◌, ◌+◌, ℕ, max, length, drop, map}
use Rattle.std.specs.Prelude.{slice_index}
use Rattle.registers.specs.declared.value.Read.{Read}
use Rattle.registers.specs.Values.{greatest_of, read_at, reads_of}
use Rattle.registers.proofs.values.lives.raise_reads.Given as goal

abbrev pub invariant-loop-k : goal.invariant-loop-k
invariant-loop-k l = (length l.carried ≡ 256) × (length l.ends ≡ 256)
    × ((v : ℕ) → v < 256
    → max (slice_index l.carried v) (greatest_of (map (λ (r : Read). r.distance) (reads_of (drop l.k l.reads) v)))
    ≡ max (slice_index l.initial.carried v) (greatest_of (map (λ (r : Read). r.distance) (reads_of l.reads v))))
    × ((v : ℕ) → v < 256
    → max (slice_index l.ends v) (greatest_of (map (λ (r : Read). read_at l.ii l.times r + 1) (reads_of (drop l.k l.reads) v)))
    ≡ max (slice_index l.initial.ends v) (greatest_of (map (λ (r : Read). read_at l.ii l.times r + 1) (reads_of l.reads v))))
