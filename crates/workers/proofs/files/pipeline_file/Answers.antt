use Rattle.machine.specs.MachineText.{machine_of}
use Rattle.loop_reader.specs.Meaning.{loops_in}
use Rattle.candidates.specs.Promises.{IsRight}
use Rattle.candidates.specs.Files.{PreparesAndLists}
use Rattle.file_faults.proofs.Answering.{file_ok}
use Rattle.candidates.proofs.Listed.{right_of}
use Rattle.workers.proofs.files.pipeline_file.Goals as goal

pub returns-in-Ok-clause-right : goal.returns-in-Ok-clause-right
returns-in-Ok-clause-right g c =
    let r = c.args.settings.now.ratio in
    let k = c.args.settings.now.ceiling in
    file_ok (PreparesAndLists r k) IsRight (machine_of c.args.machine.now) (loops_in c.args.loops.now) (c.in-Ok.field-0-0, c.in-Ok.listing) c.in-Ok.listing
    (λ m xs h. right_of m r k xs c.in-Ok.field-0-0.items c.in-Ok.listing h.0 h.1) c.in-Ok.ensures.exact
