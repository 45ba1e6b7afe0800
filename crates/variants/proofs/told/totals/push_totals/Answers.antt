use Rattle.std.proofs.Common.{◌<◌, length, arith}
use Rattle.std.specs.List.{range_with_len}
use Rattle.std.proofs.lemmas.List.{get_or_default}
use Rattle.variants.specs.inner.Columns.{total_line}
use Rattle.variants.proofs.Zipped.{number-at, numbers-long, zipped-all, zipped-more}
use Rattle.variants.proofs.told.totals.push_totals.Goals as goal

pub loop-number-preserved : goal.loop-number-preserved
loop-number-preserved c =
    let vs = c.args.variants.now in
    let i = c.loop-number.number in
    let low : i < length vs = omega arith in
    zipped-more (total_line c.args.machine.now c.args.loops.now) vs (range_with_len 0 (length vs)) i _ i c.args.text.now.items c.loop-number.text.items c.push_total.new.text.items (numbers-long vs) low
    (get_or_default vs i _ _ low) (number-at (length vs) i low) c.loop-number.invariant c.in-Ok.ensures.ok

pub returns : goal.returns
returns c =
    let vs = c.args.variants.now in
    record {
      ok = zipped-all (total_line c.args.machine.now c.args.loops.now) vs (range_with_len 0 (length vs)) c.loop-number.number c.args.text.now.items c.loop-number.text.items (omega arith)
          c.loop-number.invariant;
    }
