use Rattle.std.proofs.Common.{◌≡◌, ◌++◌, flat_map, take}
use Rattle.lint_text.specs.Lines.{machine_line}
use Rattle.lint_text.proofs.machines.push_lines.Given as goal

abbrev pub invariant-loop-lint : goal.invariant-loop-lint
invariant-loop-lint l = l.text.items ≡ l.fn.text.items ++ flat_map (machine_line l.path l.units) (take l.lint-index l.lints)
