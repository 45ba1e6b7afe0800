use Rattle.loop_lint.proofs.Among.{among_more}
use Rattle.loop_lint.proofs.lint.add_name.Goals as goal

pub returns-clause-names : goal.returns-clause-names
returns-clause-names c = among_more c.args.names.now c.insert.new.self c.args.name.now c.in_ok-added.ensures.updates
