use Rattle.machine_lint.proofs.hints.near_key.Goals as goal

pub returns-in-TopKey : goal.returns-in-TopKey
returns-in-TopKey c = rw c.in-TopKey.is (rw c.as_str.ensures at c.kept.ensures)
