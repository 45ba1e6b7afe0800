use Rattle.std.proofs.Common.{◌∙◌, codes, sym}
use Rattle.clap.specs.Words.{found_of, rows_of}
use Rattle.clap.proofs.WalkLemmas.{raw_values-rows}
use Rattle.command_line.proofs.LineLemmas.{problems-unnamed}
use Rattle.command_line.proofs.line.given.problems_given.Goals as goal

pub returns-in-Some-clause-none : goal.returns-in-Some-clause-none
returns-in-Some-clause-none c =
    problems-unnamed (rows_of (found_of c.args.values.now)) c.args.name.now _ (sym (c.in-Some.ensures ∙ raw_values-rows (found_of c.args.values.now) (codes "loop")))

pub returns-in-None-clause-meant : goal.returns-in-None-clause-meant
returns-in-None-clause-meant c alone =
    c.unnamed_given.ensures.meant alone (sym (c.in-None.ensures ∙ raw_values-rows (found_of c.args.values.now) (codes "loop")))
