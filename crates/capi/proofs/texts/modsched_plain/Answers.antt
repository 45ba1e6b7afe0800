use Rattle.std.proofs.Common.{sym, ◌∙◌, inr}
use Rattle.loop_reader.specs.Meaning.{loops_in}
use Rattle.file_faults.specs.Answers.{AnswersAlone}
use Rattle.lines_of_runs.specs.Plain.{IsPlainText}
use Rattle.capi.proofs.Texting.{brought}
use Rattle.capi.proofs.texts.modsched_plain.Goals as goal

pub returns : goal.returns
returns c = inr (
  sym c.trip_misfit-misfit.ensures ∙ c.if-misfit-ne0.false,
  brought (AnswersAlone (IsPlainText c.args.trip) (loops_in c.args.loops.now))
      c.plain_alone.result c.args.room.now c.tell.new.room c.tell.new.told c.tell.result
      (rw c.trip_of.ensures at c.plain_alone.ensures) tt c.tell.ensures,
)
