use Rattle.std.proofs.Common.{subst, sym}
use Rattle.command_line.specs.declared.command.Search as search
use Rattle.file_faults.specs.Answers.{AnswersIn}
use Rattle.loop_reader.specs.Meaning.{loops_in}
use Rattle.modsched.specs.Engine.{IsSearchText}
use Rattle.modsched.proofs.commands.search_of.Goals as goal

pub returns-in-Schedule : goal.returns-in-Schedule
returns-in-Schedule g c =
    rw c.whole.ensures
    (subst (λ (s : search.Search). AnswersIn (IsSearchText c.args.settings.now.ratio c.args.settings.now.ceiling s c.args.machine.now) c.args.machine.now (loops_in c.args.text.now) c.schedule_text_of.result)
    (sym c.in-Schedule.is) c.schedule_text_of.ensures)

pub returns-in-Json : goal.returns-in-Json
returns-in-Json g c =
    rw c.whole-in-Json.ensures
    (subst (λ (s : search.Search). AnswersIn (IsSearchText c.args.settings.now.ratio c.args.settings.now.ceiling s c.args.machine.now) c.args.machine.now (loops_in c.args.text.now) c.document_text_of.result)
    (sym c.in-Json.is) c.document_text_of.ensures)

pub returns-in-Run : goal.returns-in-Run
returns-in-Run g c =
    subst (λ (s : search.Search). AnswersIn (IsSearchText c.args.settings.now.ratio c.args.settings.now.ceiling s c.args.machine.now) c.args.machine.now (loops_in c.args.text.now) c.run_text_of.result)
    (sym c.in-Run.is) c.run_text_of.ensures
