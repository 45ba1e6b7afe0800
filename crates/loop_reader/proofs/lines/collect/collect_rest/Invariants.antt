use Rattle.std.proofs.Common.{◌≡◌, ◌+◌, ◌≤◌, ◌++◌, List, length}
use Rattle.loop_reader.specs.Meaning.{has_statement, has_out, whole, forms_of}
use Rattle.loop_reader.specs.inner.Blocks.{forms_in}
use Rattle.loop_reader.specs.declared.lines.entry.LineEntry.{LineEntry}
use Rattle.loop_reader.proofs.lines.collect.collect_rest.Given as goal

abbrev pub invariant-loop-rest : goal.invariant-loop-rest
invariant-loop-rest l = record {
  whole : whole (forms_in l.fn.lines.items) (forms_of l.text) ≡ whole (forms_in l.lines.items) (forms_of l.rest);
  more : (more : List LineEntry) × (l.lines.items ≡ l.fn.lines.items ++ more);
  few : length l.lines.items + length l.rest ≤ length l.fn.lines.items + length l.text;
  statement : l.seen.statement ≡ has_statement (forms_in l.lines.items);
  out : l.seen.out ≡ has_out (forms_in l.lines.items);
}

abbrev pub decreases-loop-rest : goal.decreases-loop-rest
decreases-loop-rest l = length l.rest
