use Rattle.std.proofs.Common.{◌+◌, ◌≤◌, length}
use Rattle.problem_tables.specs.Seen.{tables_seen}
use Rattle.problem_reader.proofs.Reading.{IsRead}
use Rattle.problem_reader.proofs.read.read_problems.Given as goal

abbrev pub invariant-loop-rest : goal.invariant-loop-rest
invariant-loop-rest l = record {
  read : IsRead l.text (tables_seen l.tables) l.line l.rest;
  within : l.line + length l.rest ≤ 1 + length l.text;
}

abbrev pub decreases-loop-rest : goal.decreases-loop-rest
decreases-loop-rest l = length l.rest
