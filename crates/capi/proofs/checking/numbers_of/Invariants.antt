use Rattle.std.proofs.Common.{◌≡◌, take}
use Rattle.capi.proofs.checking.numbers_of.Given as goal

abbrev pub invariant-loop-number : goal.invariant-loop-number
invariant-loop-number l = l.made.items ≡ take l.number-index l.numbers
