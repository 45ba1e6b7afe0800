use Rattle.std.proofs.Common.{◌*◌, ◌/◌, ◌≤◌, arith}
use Rattle.std.proofs.lemmas.Nat.{one_shl}
use Rattle.mrt.proofs.slots.Gaps.{multiple_below, multiples_told, multiples_rest}
use Rattle.mrt.proofs.rosters.marks.multiples.Goals as goal

pub loop-count-preserved : goal.loop-count-preserved
loop-count-preserved c =
    let ii = c.args.ii in
    let count = c.loop-count.count in
    let before = c.loop-count.invariant in
    let le : count ≤ 63 / ii = omega (arith, c.loop-count-test.true, c.loop-count.auto.count-end) in
    let mask = one_shl (count * ii) 64 (multiple_below ii count le) in
    record {
      told = multiples_told ii c.loop-count.bits count c.requires.some _ mask before.rest before.told;
      rest = multiples_rest ii c.loop-count.bits count c.requires.some _ mask before.rest;
    }
