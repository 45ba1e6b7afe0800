use Rattle.std.proofs.Common.{rules}
use Rattle.std.proofs.lemmas.Int.{wraps}
use Rattle.loop_data.proofs.arithmetic.apply_two.Goals as goal

pub returns-in-Add : goal.returns-in-Add
returns-in-Add c = search (rules, wraps)

pub returns-in-Sub : goal.returns-in-Sub
returns-in-Sub c = search (rules, wraps)
