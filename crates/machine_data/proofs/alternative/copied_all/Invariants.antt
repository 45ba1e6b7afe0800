-- The copies so far are the alternatives before the next one.
use Rattle.std.proofs.Common.{◌≡◌, take}
use Rattle.machine_data.proofs.alternative.copied_all.Given as goal

abbrev pub invariant-loop-alternative : goal.invariant-loop-alternative
invariant-loop-alternative l = l.copies.items ≡ take l.alternative-index l.alternatives
