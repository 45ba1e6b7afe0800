use Rattle.std.proofs.Common.{map}
use Rattle.std.specs.List.{zip}
use Rattle.solution_reader.specs.Resolved.{number_told}
use Rattle.solution_reader.proofs.Each.{IsAhead}
use Rattle.solution_reader.proofs.resolve.numbers_of.Given as goal

-- the values so far have these numbers
abbrev pub invariant-loop-number : goal.invariant-loop-number
invariant-loop-number l = IsAhead (map (number_told l.values l.draft.files.items) (zip l.draft.names.values.items l.draft.values.items)) l.numbers.items l.number
