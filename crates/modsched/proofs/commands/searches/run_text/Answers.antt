use Rattle.std.proofs.Common.{◌++◌, ◌∙◌, ap, subst}
use Rattle.graph.specs.Units.{first_lacking}
use Rattle.loop_listings.specs.Texts.{counts_line}
use Rattle.file_faults.specs.Answers.{AnswersIn}
use Rattle.candidates.specs.Files.{PreparesAndLists}
use Rattle.run_printouts.specs.Run.{IsRunText, told_lines}
use Rattle.lines_of_runs.proofs.Problems.{loops_of}
use Rattle.run_printouts.proofs.Told.{told_run}
use Rattle.side_by_side.proofs.Answered.{right_more}
use Rattle.modsched.proofs.commands.searches.run_text.Goals as goal

pub returns : goal.returns
returns g c = λ m r k loops h.
    let prepared = c.in_ok-prepared.prepared in
    let listing = c.in_ok-prepared.listing in
    let written = c.in_ok-run_text_on.field-0 in
    let text = c.in_ok-run_text_on.ensures.text ∙ ap (λ ps. told_lines c.args.trip listing.ceiling (loops_of ps) listing.rows ++ counts_line listing.rows) c.as_slice.ensures.value in
    right_more (PreparesAndLists r k m) (IsRunText c.args.trip r k m) (first_lacking m) loops (prepared, listing) written
    (λ ls f. told_run c.args.trip m r k ls prepared.items listing written text c.in_ok-run_text_on.ensures.met f.0 f.1)
    (subst (λ searched. AnswersIn (PreparesAndLists r k m) m loops searched) c.in_ok-prepared.was h)
