use Rattle.std.proofs.Common.{◌≡◌, [], ◌++◌, map, option_map, take}
use Rattle.toml.specs.View.{view}
use Rattle.machine_lint.specs.Tree.{in_turn, alternative_told}
use Rattle.machine_lint.proofs.tree.judge_alternative_list.Given as goal

abbrev pub invariant-loop-alternative : goal.invariant-loop-alternative
invariant-loop-alternative l = record {
  count : l.passed ≡ l.alternative-index;
  items : l.lints.items ≡ l.initial.lints.items ++ in_turn (alternative_told l.fn.within.text.now (option_map (λ v. view v.now) l.fn.within.units) l.fn.within.word.now) [] (map view (take l.alternative-index l.alternatives));
}
