use Rattle.problems.proofs.faults.Seen.{seen-more}
use Rattle.problems.proofs.checking.names.add.Goals as goal

pub returns-clause-seen : goal.returns-clause-seen
returns-clause-seen c = seen-more c.args.seen.now c.insert.new.self c.args.name.now c.in_ok-insert.ensures.updates
