use Rattle.std.proofs.Common.{◌≡◌, ℕ, Vec, map, take}
use Rattle.std.specs.Global.{Global}
use Rattle.problem_reasons.specs.Tries.{why_text}
use Rattle.problem_reasons.proofs.tries.whys_of.Given as goal

abbrev pub invariant-loop-failure : goal.invariant-loop-failure
invariant-loop-failure l = map (λ (why : Vec ℕ Global). why.items) l.whys.items ≡ map (why_text l.draft) (take l.failure-index l.failures)
