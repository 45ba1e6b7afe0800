use Rattle.std.proofs.Common.{arith}
use Rattle.loop_lines.specs.Words.{lines_of}
use Rattle.lint_text.proofs.Passing.{one_more}
use Rattle.lint_text.proofs.lines.passing.Goals as goal

pub loop-at-preserved : goal.loop-at-preserved
loop-at-preserved c = record {
  from = one_more (lines_of c.args.text.now) (lines_of c.loop-at.at.rest.now) (lines_of c.next_line.result.1.now) c.loop-at.at.passed c.next_line.result.0.now c.loop-at.invariant.from c.next_line.ensures.lines;
  few = omega arith;
}
