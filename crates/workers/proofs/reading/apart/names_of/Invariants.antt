use Rattle.std.proofs.Common.{◌≡◌, take}
use Rattle.workers.specs.inner.Pieces.{names_of}
use Rattle.workers.proofs.reading.apart.names_of.Given as goal

abbrev pub invariant-loop-one : goal.invariant-loop-one
invariant-loop-one l = l.names.items ≡ names_of (take l.one-index l.loops)
