use Rattle.std.proofs.Common.{length, ap, sym, subst, arith}
use Rattle.graph.specs.Units.{first_lacking}
use Rattle.candidates.specs.Files.{HaveCeiling, Prepares}
use Rattle.file_faults.proofs.Answering.{on_ok}
use Rattle.candidates.proofs.Listed.{prepared_ceilings, prepared_long}
use Rattle.workers.proofs.files.pipeline_on.Goals as goal

pub list-requires-clause-few : goal.list-requires-clause-few
list-requires-clause-few g c =
    let m = c.args.machine.now in
    let r = c.args.settings.now.ratio in
    let k = c.args.settings.now.ceiling in
    let are = on_ok (Prepares r k m c.args.loops.items) (first_lacking m c.args.loops.items) c.in-Ok.prepared c.in-Ok.ensures.exact in
    let long = prepared_long m r k c.args.loops.items c.in-Ok.prepared.items are.1 in
    let same = ap length c.as_slice.ensures.value in
    let whole = c.args.loops.ok.0 in
    let few = c.requires.few in
    omega arith

pub list-requires-clause-ceilings : goal.list-requires-clause-ceilings
list-requires-clause-ceilings g c =
    let m = c.args.machine.now in
    let r = c.args.settings.now.ratio in
    let k = c.args.settings.now.ceiling in
    let are = on_ok (Prepares r k m c.args.loops.items) (first_lacking m c.args.loops.items) c.in-Ok.prepared c.in-Ok.ensures.exact in
    λ t u. subst (HaveCeiling k) (sym c.as_slice.ensures.value) (prepared_ceilings m r k c.args.loops.items c.in-Ok.prepared.items are.1)
