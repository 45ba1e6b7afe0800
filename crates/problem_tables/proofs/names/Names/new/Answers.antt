use Rattle.std.proofs.Common.{rules}
use Rattle.problem_tables.specs.inner.Numbered.{number_in}
use Rattle.problem_tables.proofs.Buckets.{numbered-none}
use Rattle.problem_tables.proofs.names.Names.new.Goals as goal

pub invariant_of-result : goal.invariant_of-result
invariant_of-result c = numbered-none c.new.result.items (number_in c.new-2.result) c.new.ensures.items (search rules)
