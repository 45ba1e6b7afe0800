use Rattle.smallvec.specs.SmallVec.{SmallVec}
use Rattle.problems.specs.declared.draft.Hold.{Hold}
use Rattle.problems.specs.Faults.{alternative_fault}
use Rattle.problems.proofs.faults.Among.{IsLeft}
use Rattle.problems.proofs.checking.kinds.first_in_alternatives.Given as goal

abbrev pub invariant-loop-alternative : goal.invariant-loop-alternative
invariant-loop-alternative l = IsLeft (λ alternative (rows : SmallVec Hold). alternative_fault l.units l.kind alternative rows.items) l.alternatives l.alternative
