use Rattle.std.proofs.Common.{◌<◌, length, arith}
use Rattle.variants.specs.Findings.{AreFindings}
use Rattle.variants.proofs.Zipped.{each-more}
use Rattle.variants.proofs.found.files.find_each.Goals as goal

pub loop-index-preserved : goal.loop-index-preserved
loop-index-preserved c =
    let ps = c.args.prepared.now in
    let i = c.loop-index.index in
    let low : i < length ps = omega arith in
    let one = c.in-Ok.ensures.ok in
    each-more (AreFindings c.args.machine.now) ps c.loop-index.loops.items c.add_loop.new.loops.items i c.index-prepared-index.result one.0 low c.index-prepared-index.is c.loop-index.invariant one.1 one.2
