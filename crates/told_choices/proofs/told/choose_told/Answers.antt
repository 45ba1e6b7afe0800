use Rattle.told_choices.proofs.told.choose_told.Goals as goal

pub choose-requires-clause-are : goal.choose-requires-clause-are
choose-requires-clause-are c = c.new-failures.ensures.are c.args.prepared.now
