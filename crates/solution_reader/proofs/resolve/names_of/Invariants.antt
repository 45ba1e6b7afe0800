use Rattle.std.proofs.Common.{◌≡◌, ℕ, List, take}
use Rattle.solution_reader.specs.Data.{has_name}
use Rattle.solution_reader.specs.inner.Found.{is_among}
use Rattle.solution_reader.proofs.resolve.names_of.Given as goal

-- the set has the names so far
abbrev pub invariant-loop-name : goal.invariant-loop-name
invariant-loop-name l = (q : List ℕ) → is_among l.set q ≡ has_name (take l.name-index l.names) q
