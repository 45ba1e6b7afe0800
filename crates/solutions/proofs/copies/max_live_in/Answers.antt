use Rattle.std.proofs.Common.{sym, subst}
use Rattle.std.specs.List.{All}
use Rattle.registers.specs.Residues.{IsLifeSpan}
use Rattle.solutions.proofs.Filing.{All-in_file}
use Rattle.solutions.proofs.copies.max_live_in.Goals as goal

pub greatest_crowd-requires-clause-lives : goal.greatest_crowd-requires-clause-lives
greatest_crowd-requires-clause-lives c =
    subst (All IsLifeSpan) (sym c.gather-count.ensures.entries) (All-in_file IsLifeSpan c.args.files.now c.args.file c.args.lives.now c.requires.lives)
