use Rattle.std.proofs.Common.{◌<◌, length, arith}
use Rattle.variants.specs.Findings.{IsFoundOn}
use Rattle.variants.proofs.Zipped.{each-next}
use Rattle.variants.proofs.found.each.findings_on.Goals as goal

pub loop-variant-preserved : goal.loop-variant-preserved
loop-variant-preserved c =
    let vs = c.args.variants.now in
    let i = c.loop-variant.variant-index in
    let low : i < length vs = omega arith in
    let one = c.in-Ok.ensures.ok in
    record {
      are = c.in-Ok.ensures.are;
      each = each-next (IsFoundOn c.args.machine.now c.args.prepared.now) vs c.loop-variant.findings.items c.add_finding.new.findings.items i _ one.0 low c.loop-variant.invariant.each one.1 one.2;
    }
