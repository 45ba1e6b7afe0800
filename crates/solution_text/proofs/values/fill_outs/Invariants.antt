use Rattle.std.proofs.Common.{◌≡◌, map, take}
use Rattle.solution_text.specs.inner.Carried.{out_of}
use Rattle.solution_text.proofs.values.fill_outs.Given as goal

abbrev pub invariant-loop-k : goal.invariant-loop-k
invariant-loop-k l = take l.k l.iterations ≡ map out_of (take l.k l.values)
