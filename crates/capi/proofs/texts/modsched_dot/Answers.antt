use Rattle.machine.specs.MachineText.{machine_of}
use Rattle.loop_reader.specs.Meaning.{loops_in}
use Rattle.file_faults.specs.Answers.{AnswersFile}
use Rattle.graph_printouts.specs.Graphs.{IsDotText}
use Rattle.capi.proofs.Texting.{brought}
use Rattle.capi.proofs.texts.modsched_dot.Goals as goal

pub returns : goal.returns
returns c =
    brought (AnswersFile IsDotText (machine_of c.args.machine.now) (loops_in c.args.loops.now))
    c.drawn.result c.args.room.now c.tell.new.room c.tell.new.told c.tell.result c.drawn.ensures tt c.tell.ensures
