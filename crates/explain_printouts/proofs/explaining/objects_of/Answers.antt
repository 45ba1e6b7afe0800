use Rattle.std.proofs.Common.{◌<◌, length, arith}
use Rattle.explain_printouts.specs.ExplainDocuments.{IsObjectOf}
use Rattle.explain_printouts.proofs.Documents.{each-more}
use Rattle.explain_printouts.proofs.explaining.objects_of.Goals as goal

pub loop-index-preserved : goal.loop-index-preserved
loop-index-preserved c =
    let ps = c.args.prepared.now in
    let i = c.loop-index.index in
    let low : i < length ps = omega arith in
    let one = c.in-Ok.ensures.ok in
    each-more (IsObjectOf c.args.machine.now) ps c.loop-index.objects.items c.add_object.new.objects.items i c.index-prepared-index.result one.0 low c.index-prepared-index.is c.loop-index.invariant one.1 one.2
