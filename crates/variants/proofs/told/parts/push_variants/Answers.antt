use Rattle.std.proofs.Common.{◌<◌, length, arith}
use Rattle.variants.specs.inner.Told.{found_line}
use Rattle.variants.proofs.Zipped.{zipped-all, zipped-next}
use Rattle.variants.proofs.told.parts.push_variants.Goals as goal

pub loop-index-preserved : goal.loop-index-preserved
loop-index-preserved c =
    let vs = c.args.variants.now in
    let i = c.loop-index.index in
    let low : i < length vs = omega arith in
    zipped-next (found_line c.args.machine.now c.args.standing) vs c.args.findings.now i _ _ c.args.text.now.items c.loop-index.text.items c.push_found.new.text.items c.requires.long low
    c.loop-index.invariant c.in-Ok.ensures.ok

pub returns : goal.returns
returns c = record {
  ok = zipped-all (found_line c.args.machine.now c.args.standing) c.args.variants.now c.args.findings.now c.loop-index.index c.args.text.now.items c.loop-index.text.items (omega arith)
      c.loop-index.invariant;
}
