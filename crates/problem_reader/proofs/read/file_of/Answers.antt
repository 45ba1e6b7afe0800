use Rattle.std.proofs.Common.{subst, sym}
use Rattle.problem_reader.specs.Files.{IsFile}
use Rattle.problem_reader.proofs.read.file_of.Goals as goal

pub of-requires : goal.of-requires
of-requires c = subst IsFile (sym c.in-Ok.ensures) c.requires
