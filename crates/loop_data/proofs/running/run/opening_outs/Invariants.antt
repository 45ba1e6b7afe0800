use Rattle.std.proofs.Common.{◌≡◌, map, take}
use Rattle.loop_data.specs.Run.{initial_of}
use Rattle.loop_data.proofs.running.run.opening_outs.Given as goal

abbrev pub invariant-loop-statement : goal.invariant-loop-statement
invariant-loop-statement l = l.outs.items ≡ map (λ s. initial_of l.innermost s 1) (take l.statement-index l.statements)
