use Rattle.std.proofs.Common.{◌≡◌, ℕ, Vec, map, take}
use Rattle.std.specs.Global.{Global}
use Rattle.explain.specs.Tries.{why_text}
use Rattle.explain.proofs.intervals.tries.whys_of.Given as goal

abbrev pub invariant-loop-reason : goal.invariant-loop-reason
invariant-loop-reason l = map (λ (why : Vec ℕ Global). why.items) l.whys.items ≡ map (why_text l.prepared.loop) (take l.reason-index l.reasons)
