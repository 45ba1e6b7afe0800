use Rattle.std.proofs.Common.{◌≡◌, max, drop, map}
use Rattle.registers.specs.Values.{greatest_of}
use Rattle.solutions.specs.Copies.{copies_of, unallotted_in}
use Rattle.solutions.proofs.copies.unroll_in.Given as goal

abbrev pub invariant-loop-k : goal.invariant-loop-k
invariant-loop-k l = max l.greatest (greatest_of (map (copies_of l.ii) (unallotted_in l.kinds (drop l.k l.files) (drop l.k l.lives))))
    ≡ max 1 (greatest_of (map (copies_of l.ii) (unallotted_in l.kinds l.files l.lives)))
