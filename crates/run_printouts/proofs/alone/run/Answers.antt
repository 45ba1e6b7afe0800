use Rattle.std.proofs.Common.{◌++◌, ◌∙◌, List, ap, sym, subst}
use Rattle.graph.specs.Units.{first_lacking}
use Rattle.loop_schedules.specs.Problems.{ProblemData}
use Rattle.loop_listings.specs.Texts.{counts_line}
use Rattle.file_faults.proofs.Answering.{on_more, on_ok}
use Rattle.candidates.specs.Files.{PreparesAndLists}
use Rattle.lines_of_runs.specs.Runnable.{AreRunnable}
use Rattle.run_printouts.specs.Run.{IsRunText, told_lines}
use Rattle.run_printouts.proofs.Runnable.{listed_runnable}
use Rattle.lines_of_runs.proofs.Problems.{loops_of}
use Rattle.run_printouts.proofs.Told.{told_run}
use Rattle.run_printouts.proofs.alone.run.Goals as goal

pub run_printout-requires : goal.run_printout-requires
run_printout-requires c =
    let r = c.args.settings.now.ratio in
    let k = c.args.settings.now.ceiling in
    let m = c.args.machine.now in
    let ls = c.args.loops.items in
    let prepared = c.in_ok-prepared.prepared in
    let listing = c.in_ok-prepared.listing in
    let h = on_ok (PreparesAndLists r k m ls) (first_lacking m ls) (prepared, listing) c.in_ok-prepared.ensures.exact in
    subst (λ ps. AreRunnable ps listing.rows) (sym c.as_slice.ensures.value) (listed_runnable k prepared.items listing h.1.1)

pub returns : goal.returns
returns c =
    let r = c.args.settings.now.ratio in
    let k = c.args.settings.now.ceiling in
    let m = c.args.machine.now in
    let ls = c.args.loops.items in
    let prepared = c.in_ok-prepared.prepared in
    let listing = c.in_ok-prepared.listing in
    let written = c.in_ok-run_printout.field-0 in
    on_more (PreparesAndLists r k m ls) (IsRunText c.args.trip r k m ls) (first_lacking m ls) (prepared, listing) written
    (λ f. told_run c.args.trip m r k ls prepared.items listing written
    (c.in_ok-run_printout.ensures.text ∙ ap (λ (ps : List ProblemData). told_lines c.args.trip listing.ceiling (loops_of ps) listing.rows ++ counts_line listing.rows) c.as_slice.ensures.value)
    c.in_ok-run_printout.ensures.met f.0 f.1) c.in_ok-prepared.ensures.exact
