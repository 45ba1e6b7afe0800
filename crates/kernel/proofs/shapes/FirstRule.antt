-- The rules in the order in which they are tested.
use Rattle.std.proofs.Common.{ℕ, ◌<◌, ◌≤◌, arith}
use Rattle.kernel.specs.declared.kernels.check.Rule.{Rule}
use Rattle.kernel.specs.declared.kernels.check.Rule.TheVariants.{Size, Row, Stage, Latency, Register, Shape, Place, Preload, Out}
use Rattle.kernel.specs.declared.kernels.parts.Parts.{Parts}
use Rattle.kernel.specs.Check.{IsWellFormed}
use Rattle.kernel.specs.Rules.{Keeps, order_of}

-- the rules before a place are kept
pub record AreKept (parts : Parts) (count : ℕ) : Type 0 where
  pub each : (rule : Rule) → order_of rule < count → Keeps rule parts

-- parts that keep them all
pub kept_all : (parts : Parts) (count : ℕ) → 9 ≤ count → AreKept parts count → IsWellFormed parts
kept_all parts count past kept = record {
  size = kept.each Size (omega arith);
  row = kept.each Row (omega arith);
  stage = kept.each Stage (omega arith);
  latency = kept.each Latency (omega arith);
  register = kept.each Register (omega arith);
  shape = kept.each Shape (omega arith);
  place = kept.each Place (omega arith);
  preload = kept.each Preload (omega arith);
  out = kept.each Out (omega arith);
}
