use Rattle.std.proofs.Common.{sym, ap, subst}
use Rattle.std.specs.List.{All}
use Rattle.std.specs.Prelude.{Ok}
use Rattle.registers.specs.Allotments.{HaveNone}
use Rattle.registers.specs.Residues.{IsLifeSpan}
use Rattle.solutions.proofs.Filing.{All-in_file}
use Rattle.solutions.proofs.Filling.{left-out}
use Rattle.solutions.proofs.values.found.find_some.Goals as goal

pub find_least-requires-clause-lives : goal.find_least-requires-clause-lives
find_least-requires-clause-lives c =
    subst (All IsLifeSpan) (sym c.gather-count.ensures.entries) (All-in_file IsLifeSpan c.args.files.now c.args.file c.args.lives.now c.requires.lives)

pub returns-clause-found : goal.returns-clause-found
returns-clause-found c =
    left-out c.args.ii c.args.registers c.args.files.now c.args.lives.now c.args.file c.requires.each_life
    (subst (HaveNone c.args.ii c.args.registers) c.gather-count.ensures.entries (c.in_ok-found.ensures.none (ap Ok c.if-found.false)))
