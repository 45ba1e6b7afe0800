use Rattle.std.proofs.Common.{ℕ, ◌<◌}
use Rattle.mrt.specs.Placements.{IsFree}
use Rattle.mrt.proofs.owner.OwnerTableModuloTable.free.Given as goal

-- no alternative before this one serves
abbrev pub invariant-loop-alternative : goal.invariant-loop-alternative
invariant-loop-alternative l =
    (sooner : ℕ) → sooner < l.alternative → IsFree l.self.interval l.self.operations l.self.placed l.op l.time sooner → ⊥
