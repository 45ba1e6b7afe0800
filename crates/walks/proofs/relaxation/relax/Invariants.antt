use Rattle.std.proofs.Common.{◌≡◌, ◌⊎◌, ℕ, ◌-◌, ◌*◌}
use Rattle.walks.specs.inner.Reaches.{AreReaches, AreVias, IsRise}
use Rattle.walks.proofs.relaxation.relax.Given as goal

abbrev pub invariant-loop-made : goal.invariant-loop-made
invariant-loop-made l = record {
  reaches : AreReaches l.edges l.interval (128 * l.made) l.made l.numbers;
  via : AreVias l.edges l.via;
  risen : (l.made ≡ 0) ⊎ ((p : ℕ) × IsRise l.edges l.interval (l.made - 1) p);
}
