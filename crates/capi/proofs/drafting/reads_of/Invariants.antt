use Rattle.std.proofs.Common.{◌≡◌, map, take}
use Rattle.capi.specs.Given.{read_of}
use Rattle.capi.proofs.drafting.reads_of.Given as goal

abbrev pub invariant-loop-read : goal.invariant-loop-read
invariant-loop-read l = l.made.items ≡ map read_of (take l.read-index l.reads)
