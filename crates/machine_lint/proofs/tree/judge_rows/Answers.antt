use Rattle.std.proofs.Common.{◌<◌, length, option_map, arith}
use Rattle.toml.specs.View.{view}
use Rattle.machine_lint.specs.Tree.{row_told}
use Rattle.machine_lint.proofs.Turns.{turn-all, turn-more}
use Rattle.machine_lint.proofs.tree.judge_rows.Goals as goal

pub loop-row-preserved : goal.loop-row-preserved
loop-row-preserved c =
    let below : c.loop-row.row-index < length c.args.rows.now = omega arith in
    record {
      count = omega (arith, c.loop-row.invariant.count);
      items = turn-more (row_told c.args.within.text.now (option_map (λ v. view v.now) c.args.within.units) c.args.within.word.now c.args.number) c.args.rows.now c.loop-row.row-index c.row-item.result _ _ _ below c.row-item.is c.loop-row.invariant.items (rw c.loop-row.invariant.count at c.in_ok-judge_row.ensures);
    }

pub returns : goal.returns
returns c = turn-all (row_told c.args.within.text.now (option_map (λ v. view v.now) c.args.within.units) c.args.within.word.now c.args.number) c.args.rows.now c.loop-row.row-index c.args.lints.now.items _ (omega arith) c.loop-row.invariant.items
