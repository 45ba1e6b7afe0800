use Rattle.mrt.proofs.slots.Laying.{AreTimes-rounds, is_set-rounds, AreTimes-times, is_set-times}
use Rattle.mrt.proofs.words.timelines.TimelinesLayout.write.Goals as goal

pub returns-then-ii-lt-LEAST-clause-laid : goal.returns-then-ii-lt-LEAST-clause-laid
returns-then-ii-lt-LEAST-clause-laid c =
    AreTimes-rounds c.args.ii c.args.width c.args.slot.now.row.unit c.args.residue c.args.words.now c.write_round.new.rounds c.args.held c.requires.residue c.requires.laid c.write_round.auto.rounds
    c.if-ii-lt-LEAST.true c.write_round.ensures.written

pub returns-then-ii-lt-LEAST-clause-written : goal.returns-then-ii-lt-LEAST-clause-written
returns-then-ii-lt-LEAST-clause-written c =
    is_set-rounds c.args.ii c.args.width c.args.slot.now.row.unit c.args.residue c.args.words.now c.write_round.new.rounds c.args.held c.requires.residue c.requires.laid c.write_round.auto.rounds
    c.if-ii-lt-LEAST.true c.write_round.ensures.written

pub returns-else-ii-lt-LEAST-clause-laid : goal.returns-else-ii-lt-LEAST-clause-laid
returns-else-ii-lt-LEAST-clause-laid c =
    AreTimes-times c.args.ii c.args.width c.args.slot.now.row.unit c.args.residue c.args.words.now c.write.new.times c.args.held c.requires.residue c.requires.laid c.write.auto.times
    c.if-ii-lt-LEAST.false c.write.ensures.marked

pub returns-else-ii-lt-LEAST-clause-written : goal.returns-else-ii-lt-LEAST-clause-written
returns-else-ii-lt-LEAST-clause-written c =
    is_set-times c.args.ii c.args.width c.args.slot.now.row.unit c.args.residue c.args.words.now c.write.new.times c.args.held c.requires.residue c.requires.laid c.write.auto.times
    c.if-ii-lt-LEAST.false c.write.ensures.marked
