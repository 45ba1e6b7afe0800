use Rattle.std.proofs.Common.{◌++◌, ◌∙◌, ap, of_calls, rules}
use Rattle.loop_reader.specs.Meaning.{loops_in}
use Rattle.loop_listings.specs.Texts.{counts_line}
use Rattle.run_printouts.specs.Run.{IsRunText, told_lines}
use Rattle.lines_of_runs.proofs.Problems.{loops_of}
use Rattle.run_printouts.proofs.Told.{told_run}
use Rattle.side_by_side.proofs.Texts.{JoinsRuns, few_told, run_is, shown_runs, written_apart, written_whole}
use Rattle.side_by_side.proofs.commands.texts.run_text_of.Goals as goal

pub told_apart-requires : goal.told_apart-requires
told_apart-requires g c =
    few_told _ _ (shown_runs c.args.trip) JoinsRuns c.args.machine.now c.args.settings.now.ratio c.args.settings.now.ceiling (loops_in c.args.text.now) c.in_ok-told.told c.in-Apart.parts c.in_ok-told.ensures.exact c.in-Apart.is
    (λ problems listing part says. let told = says.met in (search (rules, of_calls, told), search (rules, of_calls, told)))

pub returns-in_ok-told_apart-in-Apart : goal.returns-in_ok-told_apart-in-Apart
returns-in_ok-told_apart-in-Apart g c =
    let m = c.args.machine.now in
    let r = c.args.settings.now.ratio in
    let k = c.args.settings.now.ceiling in
    written_apart _ _ (shown_runs c.args.trip) JoinsRuns m r k (IsRunText c.args.trip r k m) (λ ls groups parts written prepared h joins. run_is c.args.trip m r k ls groups parts written prepared h joins)
    (loops_in c.args.text.now) c.in_ok-told.told c.in-Apart.parts c.in_ok-told_apart-in-Apart.field-0 c.in_ok-told.ensures.exact c.in-Apart.is
    (λ problems listing part says. let told = says.met in (search (rules, of_calls, told), search (rules, of_calls, told)))
    (record { text = c.in_ok-told_apart-in-Apart.ensures.text; met = c.in_ok-told_apart-in-Apart.ensures.met })

pub returns-in_ok-run_text_on-in-Whole : goal.returns-in_ok-run_text_on-in-Whole
returns-in_ok-run_text_on-in-Whole g c =
    let m = c.args.machine.now in
    let r = c.args.settings.now.ratio in
    let k = c.args.settings.now.ceiling in
    let prepared = c.in-Whole.prepared in
    let listing = c.in-Whole.listing in
    let written = c.in_ok-run_text_on-in-Whole.field-0 in
    written_whole _ _ (shown_runs c.args.trip) JoinsRuns m r k (IsRunText c.args.trip r k m) (loops_in c.args.text.now) c.in_ok-told.told prepared listing written c.in_ok-told.ensures.exact c.in-Whole.is
    (λ ls are is.
    told_run c.args.trip m r k ls prepared.items listing written
    (c.in_ok-run_text_on-in-Whole.ensures.text ∙ ap (λ ps. told_lines c.args.trip listing.ceiling (loops_of ps) listing.rows ++ counts_line listing.rows) c.as_slice.ensures.value)
    c.in_ok-run_text_on-in-Whole.ensures.met are is)
