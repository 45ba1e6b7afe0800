use Rattle.std.proofs.Common.{subst, sym}
use Rattle.std.specs.Prelude.{Ok}
use Rattle.graph.specs.Units.{first_lacking}
use Rattle.command_line.specs.declared.command.Search as search
use Rattle.file_faults.specs.Answers.{AnswersOn}
use Rattle.candidates.specs.Files.{PreparesAndLists}
use Rattle.run_printouts.specs.Run.{IsRunText}
use Rattle.json_printouts.specs.Documents.{IsListingDocument}
use Rattle.printouts.specs.Schedule.{IsListingText}
use Rattle.modsched.specs.Engine.{IsSearchText}
use Rattle.modsched.proofs.Searched.{of_loops, on_loops}
use Rattle.modsched.proofs.commands.search_text.Goals as goal

pub returns-in-Schedule : goal.returns-in-Schedule
returns-in-Schedule g c =
    let r = c.args.settings.now.ratio in
    let k = c.args.settings.now.ceiling in
    let m = c.args.machine.now in
    let ls = c.args.loops.items in
    let searched = of_loops (PreparesAndLists r k m) (first_lacking m) ls c.pipeline_on-searched.result c.pipeline_on-searched.ensures.exact in
    rw c.whole.ensures (subst (λ (s : search.Search). AnswersOn (IsSearchText r k s m ls) (first_lacking m ls) c.schedule_text.result) (sym c.in-Schedule.is)
    (on_loops (IsListingText r k m) (first_lacking m) ls c.schedule_text.result (c.schedule_text.ensures m r k (Ok ls) searched)))

pub returns-in-Json : goal.returns-in-Json
returns-in-Json g c =
    let r = c.args.settings.now.ratio in
    let k = c.args.settings.now.ceiling in
    let m = c.args.machine.now in
    let ls = c.args.loops.items in
    let searched = of_loops (PreparesAndLists r k m) (first_lacking m) ls c.pipeline_on-searched-in-Json.result c.pipeline_on-searched-in-Json.ensures.exact in
    rw c.whole-in-Json.ensures (subst (λ (s : search.Search). AnswersOn (IsSearchText r k s m ls) (first_lacking m ls) c.json_text.result) (sym c.in-Json.is)
    (on_loops (IsListingDocument r k m) (first_lacking m) ls c.json_text.result (c.json_text.ensures m r k (Ok ls) searched)))

pub returns-in-Run : goal.returns-in-Run
returns-in-Run g c =
    let r = c.args.settings.now.ratio in
    let k = c.args.settings.now.ceiling in
    let m = c.args.machine.now in
    let ls = c.args.loops.items in
    let searched = of_loops (PreparesAndLists r k m) (first_lacking m) ls c.pipeline_on-searched-in-Run.result c.pipeline_on-searched-in-Run.ensures.exact in
    subst (λ (s : search.Search). AnswersOn (IsSearchText r k s m ls) (first_lacking m ls) c.run_text.result) (sym c.in-Run.is)
    (on_loops (IsRunText c.in-Run.trip r k m) (first_lacking m) ls c.run_text.result (c.run_text.ensures m r k (Ok ls) searched))
