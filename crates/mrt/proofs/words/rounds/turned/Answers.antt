use Rattle.mrt.proofs.slots.Timing.{turned_before, turned_after}
use Rattle.mrt.proofs.words.rounds.turned.Goals as goal

pub returns-clause-before : goal.returns-clause-before
returns-clause-before c k lt = turned_before c.args.round c.args.ii c.args.residue k c.requires.short lt

pub returns-clause-after : goal.returns-clause-after
returns-clause-after c k lt past none = turned_after c.args.round c.args.ii c.args.residue k c.requires.short c.requires.residue lt past none
