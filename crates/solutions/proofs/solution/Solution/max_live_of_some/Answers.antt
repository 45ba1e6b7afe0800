use Rattle.std.proofs.Common.{◌≡◌, length, sym, ap, ◌∙◌, subst}
use Rattle.std.specs.List.{All}
use Rattle.registers.specs.Residues.{IsLifeSpan}
use Rattle.solutions.specs.Solutions.{files_of}
use Rattle.solutions.proofs.Copying.{as-many, front-is, max_live-is, read-files, spans-of}
use Rattle.solutions.proofs.solution.Solution.max_live_of_some.Goals as goal

pub max_live_in-requires-clause-lives : goal.max_live_in-requires-clause-lives
max_live_in-requires-clause-lives c = subst (All IsLifeSpan) (sym c.lives.ensures.value) (spans-of c.args.self.now c.ii-ii.ensures.well_formed)

pub max_live_in-requires-clause-each : goal.max_live_in-requires-clause-each
max_live_in-requires-clause-each c =
    let files : c.fill_files.new.files ≡ files_of c.args.self.now.problem.draft
    = read-files c.args.self.now.problem c.draft-draft.result.now c.problem.result.now c.as_slice-values.result.now c.fill_files.new.files
    c.problem.ensures.value c.draft-draft.ensures.value c.as_slice-values.ensures.value c.fill_files.ensures in
    as-many c.args.self.now c.fill_files.new.files c.lives.result.now files c.lives.ensures.value
    ∙ ap length (sym (front-is c.fill_files.new.files _ c.as_slice-values.result.now c.fill_files.ensures))

pub returns : goal.returns
returns c =
    let files : c.fill_files.new.files ≡ files_of c.args.self.now.problem.draft
    = read-files c.args.self.now.problem c.draft-draft.result.now c.problem.result.now c.as_slice-values.result.now c.fill_files.new.files
    c.problem.ensures.value c.draft-draft.ensures.value c.as_slice-values.ensures.value c.fill_files.ensures in
    c.max_live_in.ensures
    ∙ max_live-is c.args.self.now c.ii-ii.result _ c.args.file c.lives.result.now c.ii-ii.ensures.value
    (front-is c.fill_files.new.files _ c.as_slice-values.result.now c.fill_files.ensures ∙ files) c.lives.ensures.value
