use Rattle.std.proofs.Common.{◌<◌, length, arith}
use Rattle.machine_lint.specs.Tree.{unit_told}
use Rattle.machine_lint.proofs.Turns.{turn-all, turn-more}
use Rattle.machine_lint.proofs.tree.judge_unit_list.Goals as goal

pub loop-unit-preserved : goal.loop-unit-preserved
loop-unit-preserved c =
    let below : c.loop-unit.unit-index < length c.args.units.now = omega arith in
    record {
      count = omega (arith, c.loop-unit.invariant.count);
      items = turn-more (unit_told c.args.text.now) c.args.units.now c.loop-unit.unit-index c.unit-item.result _ _ _ below c.unit-item.is c.loop-unit.invariant.items (rw c.loop-unit.invariant.count at c.in_ok-judge_unit.ensures);
    }

pub returns : goal.returns
returns c = turn-all (unit_told c.args.text.now) c.args.units.now c.loop-unit.unit-index c.args.lints.now.items _ (omega arith) c.loop-unit.invariant.items
