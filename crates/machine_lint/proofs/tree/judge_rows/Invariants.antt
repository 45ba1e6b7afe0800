use Rattle.std.proofs.Common.{◌≡◌, [], ◌++◌, map, option_map, take}
use Rattle.toml.specs.View.{view}
use Rattle.machine_lint.specs.Tree.{in_turn, row_told}
use Rattle.machine_lint.proofs.tree.judge_rows.Given as goal

abbrev pub invariant-loop-row : goal.invariant-loop-row
invariant-loop-row l = record {
  count : l.passed ≡ l.row-index;
  items : l.lints.items ≡ l.initial.lints.items ++ in_turn (row_told l.fn.within.text.now (option_map (λ v. view v.now) l.fn.within.units) l.fn.within.word.now l.number) [] (map view (take l.row-index l.rows));
}
