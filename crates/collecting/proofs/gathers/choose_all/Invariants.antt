use Rattle.collecting.proofs.Choosing.{ChosenSoFar}
use Rattle.collecting.proofs.gathers.choose_all.Given as goal

abbrev pub invariant-loop-number : goal.invariant-loop-number
invariant-loop-number l = ChosenSoFar l.loops l.fn.rows l.rows l.chosen l.number
