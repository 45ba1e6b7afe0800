use Rattle.solution_reader.proofs.Names.{added_known}
use Rattle.solution_reader.proofs.numbers.add_number.Goals as goal

pub returns-in-Ok-clause-added : goal.returns-in-Ok-clause-added
returns-in-Ok-clause-added c = added_known c.args.numbers.now c.insert.new.self c.args.name.now c.args.number c.requires c.in-Ok.ensures.updates
