use Rattle.std.proofs.Common.{sym, subst}
use Rattle.graph.specs.Units.{first_lacking}
use Rattle.candidates.specs.Files.{HaveCeiling, Prepares}
use Rattle.file_faults.proofs.Answering.{on_ok}
use Rattle.candidates.proofs.Listed.{prepared_ceilings}
use Rattle.candidates.proofs.listing.pipeline_alone.Goals as goal

pub list_alone-requires : goal.list_alone-requires
list_alone-requires c =
    let m = c.args.machine.now in
    let r = c.args.settings.now.ratio in
    let k = c.args.settings.now.ceiling in
    let are = on_ok (Prepares r k m c.args.loops.items) (first_lacking m c.args.loops.items) c.in-Ok.prepared c.in-Ok.ensures.exact in
    record {
      ceilings = subst (HaveCeiling k) (sym c.as_slice.ensures.value) (prepared_ceilings m r k c.args.loops.items c.in-Ok.prepared.items are.1);
    }
