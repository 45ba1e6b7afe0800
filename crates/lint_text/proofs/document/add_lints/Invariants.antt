use Rattle.std.proofs.Common.{◌≡◌, ◌++◌, map, take}
use Rattle.serde_json.specs.View.{view}
use Rattle.lint_text.specs.Document.{machine_value}
use Rattle.lint_text.proofs.document.add_lints.Given as goal

abbrev pub invariant-loop-lint : goal.invariant-loop-lint
invariant-loop-lint l = map view l.values.items ≡ map view l.fn.values.items ++ map (machine_value l.path l.units) (take l.lint-index l.lints)
