use Rattle.std.proofs.Common.{◌≡◌, take}
use Rattle.machine_data.proofs.alternative.are_same.Given as goal

-- the alternatives so far are the same
abbrev pub invariant-loop-i : goal.invariant-loop-i
invariant-loop-i l = take l.i l.some ≡ take l.i l.others
