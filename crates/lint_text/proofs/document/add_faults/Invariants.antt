use Rattle.std.proofs.Common.{◌≡◌, ◌++◌, map, take}
use Rattle.serde_json.specs.View.{view}
use Rattle.lint_text.specs.Document.{loop_value}
use Rattle.lint_text.specs.inner.Cursors.{IsFrom}
use Rattle.lint_text.proofs.document.add_faults.Given as goal

abbrev pub invariant-loop-fault : goal.invariant-loop-fault
invariant-loop-fault l = record {
  values : map view l.values.items ≡ map view l.fn.values.items ++ map (loop_value l.path l.bytes) (take l.fault-index l.faults);
  from : IsFrom l.bytes l.from;
}
