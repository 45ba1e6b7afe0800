use Rattle.std.proofs.Common.{◌≡◌, [], ◌++◌, map, take}
use Rattle.toml.specs.View.{view}
use Rattle.machine_lint.specs.Tree.{in_turn, unit_told}
use Rattle.machine_lint.proofs.tree.judge_unit_list.Given as goal

abbrev pub invariant-loop-unit : goal.invariant-loop-unit
invariant-loop-unit l = record {
  count : l.passed ≡ l.unit-index;
  items : l.lints.items ≡ l.initial.lints.items ++ in_turn (unit_told l.text) [] (map view (take l.unit-index l.units));
}
