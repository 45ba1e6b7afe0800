-- The best of the alternatives so far.
use Rattle.mrt.proofs.searching.Searching.{IsBest, is_free_after}
use Rattle.mrt.proofs.bits.BitTable.first_by_alternatives.Given as goal

abbrev pub invariant-loop-alternative : goal.invariant-loop-alternative
invariant-loop-alternative g l = IsBest (is_free_after l.self.interval l.self.operations l.self.placed l.op l.start) l.self.interval l.first l.best l.alternative
