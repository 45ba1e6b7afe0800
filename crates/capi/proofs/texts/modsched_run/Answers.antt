use Rattle.std.proofs.Common.{sym, ◌∙◌, inr}
use Rattle.machine.specs.MachineText.{machine_of}
use Rattle.loop_reader.specs.Meaning.{loops_in}
use Rattle.file_faults.specs.Answers.{AnswersFile}
use Rattle.run_printouts.specs.Run.{IsRunText}
use Rattle.capi.proofs.Texting.{brought}
use Rattle.capi.proofs.texts.modsched_run.Goals as goal

pub returns : goal.returns
returns c = inr (
  sym c.run_misfit-misfit.ensures ∙ c.if-misfit-ne0.false,
  brought (AnswersFile (IsRunText c.args.trip c.args.ratio c.args.ceiling) (machine_of c.args.machine.now) (loops_in c.args.loops.now))
      c.run_alone-printed.result c.args.room.now c.tell.new.room c.tell.new.told c.tell.result
      (rw (c.trip_of.ensures, c.settings_of-settings.ensures.ratio, c.settings_of-settings.ensures.ceiling) at c.run_alone-printed.ensures) tt c.tell.ensures,
)
