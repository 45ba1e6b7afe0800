-- What is told of a refusal.
use Rattle.std.specs.Prelude.{ℕ, List, codes}
use Rattle.problems.specs.declared.fault.Refusal.{Refusal}
use Rattle.problems.specs.declared.fault.Refusal.TheVariants.{Fault, Memory}

abbrev pub told_of : Refusal → List ℕ
told_of (Fault fault) = codes "the problem is at fault"
told_of (Memory cause) = codes "out of memory"
