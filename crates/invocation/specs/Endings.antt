-- What the words of a command line come to.
use Rattle.std.specs.Prelude.{◌≡◌, ◌⊎◌, List, [], Option, Result, Ok, Err}
use Rattle.clap.specs.Words.{IsAmong, Kinds, Row, Text}
use Rattle.clap.specs.declared.error.kind.ErrorKind.{ErrorKind}
use Rattle.command_line.specs.declared.command.Command.{Command}
use Rattle.command_line.specs.declared.line.Usage.{Usage}
use Rattle.command_line.specs.declared.line.Usage.TheVariants.{Help, Refused, Memory}
use Rattle.command_line.specs.Lines.{IsRequest, Means}
use Rattle.exit_status.specs.declared.status.Status.TheVariants.{Done, Unwritten}
use Rattle.invocation.specs.declared.Invocation.{Invocation}
use Rattle.invocation.specs.declared.Invocation.TheVariants.{Work, Shown}

-- words ask for a command that they mean, or request help or the version, and the run ends as one does that writes a text; else they are refused, or memory ran out
abbrev pub IsInvocation : Result Invocation Usage → Kinds → Option (Text × List Row) → Type 0
IsInvocation (Ok (Work command)) kinds subcommand = (kinds ≡ []) × Means command subcommand
IsInvocation (Ok (Shown status)) kinds subcommand = ((k : ErrorKind) × IsAmong k kinds × IsRequest k) × ((status ≡ Done) ⊎ (status ≡ Unwritten))
IsInvocation (Err (Help text)) kinds subcommand = ⊥
IsInvocation (Err (Refused text)) kinds subcommand = ((k : ErrorKind) × IsAmong k kinds × (¬ IsRequest k))
    ⊎ ((kinds ≡ []) × ((command : Command) → ¬ Means command subcommand))
IsInvocation (Err Memory) kinds subcommand = Unit {0}

-- no request for help that is still to be shown
abbrev pub IsNoRequest : Usage → Type 0
IsNoRequest (Help text) = ⊥
IsNoRequest (Refused text) = Unit {0}
IsNoRequest Memory = Unit {0}
