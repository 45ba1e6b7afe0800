use Rattle.std.proofs.Common.{rules}
use Rattle.problem_tables.specs.inner.Numbered.{number_in}
use Rattle.problem_tables.proofs.Buckets.{numbered-none}
use Rattle.problem_tables.proofs.names.Names.take.Goals as goal

pub invariant_of-self : goal.invariant_of-self
invariant_of-self c = numbered-none c.replace.new.dest.items (number_in c.clear.new.self) (search rules) (search rules)
