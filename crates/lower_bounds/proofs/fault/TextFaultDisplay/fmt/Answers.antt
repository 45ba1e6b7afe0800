use Rattle.lower_bounds.proofs.fault.TextFaultDisplay.fmt.Goals as goal

pub returns-in-NoTable-clause-writes : goal.returns-in-NoTable-clause-writes
returns-in-NoTable-clause-writes g c =
    rw (c.in-NoTable.is, ← c.word-word.ensures) c.write.ensures.writes
