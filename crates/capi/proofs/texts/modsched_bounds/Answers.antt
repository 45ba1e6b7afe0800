use Rattle.machine.specs.MachineText.{machine_of}
use Rattle.loop_reader.specs.Meaning.{loops_in}
use Rattle.file_faults.specs.Answers.{AnswersFile}
use Rattle.listing_printouts.specs.Bounds.{IsBoundsText}
use Rattle.capi.proofs.Texting.{brought}
use Rattle.capi.proofs.texts.modsched_bounds.Goals as goal

pub returns : goal.returns
returns c =
    brought (AnswersFile IsBoundsText (machine_of c.args.machine.now) (loops_in c.args.loops.now))
    c.bounds_alone.result c.args.room.now c.tell.new.room c.tell.new.told c.tell.result c.bounds_alone.ensures tt c.tell.ensures
