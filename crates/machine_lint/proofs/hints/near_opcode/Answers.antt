use Rattle.machine_lint.proofs.hints.near_opcode.Goals as goal

pub returns : goal.returns
returns c = rw c.as_str.ensures at c.kept.ensures
