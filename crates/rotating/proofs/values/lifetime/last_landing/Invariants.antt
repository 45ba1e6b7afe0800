use Rattle.std.proofs.Common.{◌≡◌, ℕ, ◌+◌, max, drop, map, zip}
use Rattle.unit_bound.specs.Units.{greatest_of}
use Rattle.rotating.proofs.values.lifetime.last_landing.Given as goal

abbrev pub invariant-loop-op : goal.invariant-loop-op
invariant-loop-op l = max l.greatest (greatest_of (map (λ (p : ℕ × ℕ). p.0 + p.1) (zip (drop l.op l.schedule.times) (drop l.op l.schedule.problem.graph.latencies))))
    ≡ greatest_of (map (λ (p : ℕ × ℕ). p.0 + p.1) (zip l.schedule.times l.schedule.problem.graph.latencies))
