-- What subcommands do with their texts.
use Rattle.std.specs.Prelude.{Result}
use Rattle.file_faults.specs.declared.fault.FileFault.{FileFault}
use Rattle.written.specs.Written.{Written}

-- what a subcommand does with its texts: it writes, or it refuses them; or memory ran out, which says nothing of them
abbrev pub Outcome : Type 0
Outcome = Result Written FileFault
