use Rattle.std.proofs.Common.{arith, below_more}
use Rattle.mrt.proofs.table.ModuloTable.first_free.Goals as goal

pub loop-time-preserved : goal.loop-time-preserved
loop-time-preserved g c = below_more _ _ c.loop-time.invariant (λ alternative from. c.in_default.ensures alternative)

pub returns : goal.returns
returns g c = λ time alternative from to. c.loop-time.invariant time (omega arith) alternative from
