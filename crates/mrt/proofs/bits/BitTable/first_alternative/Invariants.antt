use Rattle.std.proofs.Common.{◌≡◌, ℕ, ◌%◌, ◌<◌}
use Rattle.mrt.specs.Placements.{IsFree}
use Rattle.mrt.proofs.bits.BitTable.first_alternative.Given as goal

-- no alternative before this one serves
abbrev pub invariant-loop-alternative : goal.invariant-loop-alternative
invariant-loop-alternative g l =
    (time sooner : ℕ) → time % l.self.interval ≡ l.base → sooner < l.alternative → IsFree l.self.interval l.self.operations l.self.placed l.op time sooner → ⊥
