use Rattle.std.proofs.Common.{◌≡◌, max, map, take}
use Rattle.registers.specs.declared.value.Read.{Read}
use Rattle.registers.specs.Values.{greatest_of, reads_of}
use Rattle.solution_text.proofs.values.carried.Given as goal

abbrev pub invariant-loop-read : goal.invariant-loop-read
invariant-loop-read l = l.iterations ≡ max (greatest_of (map (λ (r : Read). r.distance) (reads_of (take l.read-index l.read-items) l.value))) l.initial.iterations
