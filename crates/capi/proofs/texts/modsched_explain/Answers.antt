use Rattle.std.proofs.Common.{sym, ◌∙◌, inr}
use Rattle.machine.specs.MachineText.{machine_of}
use Rattle.loop_reader.specs.Meaning.{loops_in}
use Rattle.file_faults.specs.Answers.{AnswersFile}
use Rattle.explain_printouts.specs.Explain.{IsExplainText}
use Rattle.capi.proofs.Texting.{brought}
use Rattle.capi.proofs.texts.modsched_explain.Goals as goal

pub returns : goal.returns
returns c = inr (
  sym c.search_misfit-misfit.ensures ∙ c.if-misfit-ne0.false,
  brought (AnswersFile (IsExplainText c.args.ratio c.args.ceiling) (machine_of c.args.machine.now) (loops_in c.args.loops.now))
      c.explained-printed.result c.args.room.now c.tell.new.room c.tell.new.told c.tell.result
      (rw (c.settings_of.ensures.ratio, c.settings_of.ensures.ceiling) at c.explained-printed.ensures) tt c.tell.ensures,
)
