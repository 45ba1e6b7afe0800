use Rattle.std.proofs.Common.{sym, ◌∙◌, ◌≡◌}
use Rattle.exit_status.specs.declared.status.Status.TheVariants.{NoTable}
use Rattle.exit_status.proofs.status.LineDisplay.fmt.Goals as goal

pub returns-in-NoTable-clause-writes : goal.returns-in-NoTable-clause-writes
returns-in-NoTable-clause-writes g c =
    let is : c.args.self.now ≡ NoTable c.in-NoTable.name c.in-NoTable.opcode = sym c.self.view_is ∙ c.in-NoTable.is in
    rw (is, ← c.word-word.ensures) c.write-in-NoTable.ensures.writes
