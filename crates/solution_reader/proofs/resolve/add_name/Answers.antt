use Rattle.solution_reader.proofs.Among.{among_more}
use Rattle.solution_reader.proofs.resolve.add_name.Goals as goal

pub returns : goal.returns
returns c = among_more c.args.names.now c.insert.new.self c.args.name.now c.in_ok-insert.ensures.updates
