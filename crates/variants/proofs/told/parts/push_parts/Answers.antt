use Rattle.std.proofs.Common.{◌<◌, length, arith}
use Rattle.variants.specs.inner.Told.{part_text}
use Rattle.variants.proofs.Zipped.{zipped-all, zipped-more}
use Rattle.variants.proofs.told.parts.push_parts.Goals as goal

pub loop-index-preserved : goal.loop-index-preserved
loop-index-preserved c =
    let ps = c.args.prepared.now in
    let i = c.loop-index.index in
    let low : i < length ps = omega arith in
    zipped-more (part_text c.args.machine.now c.args.variants.now) ps c.args.loops.now i c.index-prepared-index.result c.index-loops-index.result c.args.text.now.items c.loop-index.text.items
    c.push_part.new.text.items c.requires.same low c.index-prepared-index.is c.index-loops-index.is c.loop-index.invariant c.in-Ok.ensures.ok

pub returns : goal.returns
returns c = record {
  ok = zipped-all (part_text c.args.machine.now c.args.variants.now) c.args.prepared.now c.args.loops.now c.loop-index.index c.args.text.now.items c.loop-index.text.items (omega arith)
      c.loop-index.invariant;
}
