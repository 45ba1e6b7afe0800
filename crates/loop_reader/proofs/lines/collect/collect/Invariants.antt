use Rattle.std.proofs.Common.{◌≡◌, ◌+◌, ◌≤◌, length}
use Rattle.loop_reader.specs.Meaning.{has_statement, has_out, forms_of}
use Rattle.loop_reader.specs.inner.Blocks.{forms_in}
use Rattle.loop_reader.proofs.blocks.Reading.{Reads}
use Rattle.loop_reader.proofs.lines.collect.collect.Given as goal

abbrev pub invariant-loop-rest : goal.invariant-loop-rest
invariant-loop-rest l = record {
  reads : Reads l.number (forms_of l.text) l.lines.items l.line (forms_of l.rest);
  statement : l.seen.statement ≡ has_statement (forms_in l.lines.items);
  out : l.seen.out ≡ has_out (forms_in l.lines.items);
  few : length l.lines.items + length l.rest ≤ length l.text;
  past : l.number ≤ l.line;
  within : l.line + length l.rest ≤ l.number + length l.text;
}

abbrev pub decreases-loop-rest : goal.decreases-loop-rest
decreases-loop-rest l = length l.rest
