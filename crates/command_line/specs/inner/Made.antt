-- Commands that are being made.
use Rattle.std.specs.Prelude.{◌≡◌, false, Result, IfOk}
use Rattle.clap.specs.declared.builder.command.Command.{Command}
use Rattle.clap.specs.declared.builder.command.Command.TheViews.{out-Command}
use Rattle.clap.specs.Words.{App, app_of}

-- a command has this line, and no global argument
abbrev pub HasLine : App → Command → Type 0
HasLine line command = (app_of command ≡ line) × ((out-Command command).has_globals ≡ false)

-- what is made has this line, and no global argument
pub record MakesLine {E : Type 0} (line : App) (made : Result Command E) : Type 0 where
  pub has_line : IfOk made (λ command. HasLine line command)

-- what is made has this line
pub record MakesProgram {E : Type 0} (line : App) (made : Result Command E) : Type 0 where
  pub is_line : IfOk made (λ command. app_of command ≡ line)
