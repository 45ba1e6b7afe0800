use Rattle.std.proofs.Common.{map}
use Rattle.solution_reader.specs.Resolved.{place_told}
use Rattle.solution_reader.proofs.Each.{IsAhead}
use Rattle.solution_reader.proofs.resolve.places_of.Given as goal

-- the operations so far have these places
abbrev pub invariant-loop-number : goal.invariant-loop-number
invariant-loop-number l = IsAhead (map (place_told l.ops) l.names) l.places.items l.number
