-- Which paths the inputs are given.
use Rattle.std.specs.Prelude.{ℕ, List, [], Option, Some, None}
use Rattle.command_line.specs.declared.command.Command.{Command}
use Rattle.command_line.specs.Lines.{first_path}

-- the path that the first input is given: none is opened where a command reads one text
abbrev pub path_or_none : Option (List ℕ) → List ℕ
path_or_none None = []
path_or_none (Some path) = path

abbrev pub first_file : Command → List ℕ
first_file command = path_or_none (first_path command)
