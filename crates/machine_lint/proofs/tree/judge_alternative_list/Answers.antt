use Rattle.std.proofs.Common.{◌<◌, length, option_map, arith}
use Rattle.toml.specs.View.{view}
use Rattle.machine_lint.specs.Tree.{alternative_told}
use Rattle.machine_lint.proofs.Turns.{turn-all, turn-more}
use Rattle.machine_lint.proofs.tree.judge_alternative_list.Goals as goal

pub loop-alternative-preserved : goal.loop-alternative-preserved
loop-alternative-preserved c =
    let below : c.loop-alternative.alternative-index < length c.args.alternatives.now = omega arith in
    record {
      count = omega (arith, c.loop-alternative.invariant.count);
      items = turn-more (alternative_told c.args.within.text.now (option_map (λ v. view v.now) c.args.within.units) c.args.within.word.now) c.args.alternatives.now c.loop-alternative.alternative-index c.alternative-item.result _ _ _ below c.alternative-item.is c.loop-alternative.invariant.items (rw c.loop-alternative.invariant.count at c.in_ok-judge_alternative.ensures);
    }

pub returns : goal.returns
returns c = turn-all (alternative_told c.args.within.text.now (option_map (λ v. view v.now) c.args.within.units) c.args.within.word.now) c.args.alternatives.now c.loop-alternative.alternative-index c.args.lints.now.items _ (omega arith) c.loop-alternative.invariant.items
