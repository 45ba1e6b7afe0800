use Rattle.std.proofs.Common.{◌≡◌, ◌++◌, take}
use Rattle.lint_text.specs.Lines.{loop_text}
use Rattle.lint_text.specs.inner.Cursors.{IsFrom}
use Rattle.lint_text.proofs.lines.push_loop_faults.Given as goal

abbrev pub invariant-loop-lint : goal.invariant-loop-lint
invariant-loop-lint l = record {
  text : l.text.items ≡ l.fn.text.items ++ loop_text l.path l.bytes (take l.lint-index l.lints);
  from : IsFrom l.bytes l.from;
}
