use Rattle.command_line.proofs.LineLemmas.{adds_subcommand}
use Rattle.command_line.proofs.line.form.add.Goals as goal

pub returns : goal.returns
returns c line has =
    adds_subcommand c.in_ok-command.command c.in_ok-needed.field-0 c.in_ok-command.was c.in_ok-needed.was c.subcommand.ensures has c.needed.ensures
