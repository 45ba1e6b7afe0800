use Rattle.std.proofs.Common.{◌≡◌, ◌+◌, ℤ, List, map, take, drop}
use Rattle.loop_data.proofs.memory.windows.Given as goal

abbrev pub invariant-loop-held : goal.invariant-loop-held
invariant-loop-held l = l.parts.items ≡ map (λ (a : List ℤ). take (l.trip + 128) (drop l.from a)) (take l.held-index l.arrays)
