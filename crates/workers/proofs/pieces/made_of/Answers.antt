use Rattle.std.proofs.Common.{sym, subst}
use Rattle.graph.specs.Units.{first_lacking}
use Rattle.file_faults.proofs.Answering.{on_ok}
use Rattle.candidates.specs.Files.{HaveCeiling, Prepares}
use Rattle.candidates.proofs.Listed.{prepared_ceilings}
use Rattle.workers.proofs.pieces.made_of.Goals as goal

pub piece_of-requires-clause-ceilings : goal.piece_of-requires-clause-ceilings
piece_of-requires-clause-ceilings g c =
    let m = c.args.machine.now in
    let r = c.args.settings.now.ratio in
    let k = c.args.settings.now.ceiling in
    let loops = c.in-Ok.loops.items in
    let prepared = c.in-Ok-prepare_all.prepared in
    let right = on_ok (Prepares r k m loops) (first_lacking m loops) prepared c.in-Ok-prepare_all.ensures.exact in
    subst (HaveCeiling k) (sym c.as_slice.ensures.value) (prepared_ceilings m r k loops prepared.items right.1)
