use Rattle.std.proofs.Common.{sym, arith}
use Rattle.problem_lines.proofs.EightBytes.{more_same, same_whole}
use Rattle.problem_lines.proofs.eights.are_same.Goals as goal

pub loop-at-preserved : goal.loop-at-preserved
loop-at-preserved c = record {
  within = omega arith;
  same = more_same c.args.one.now c.args.other.now c.loop-at.at 8 c.loop-at.invariant.same (sym c.if-not-are_eight_same.ensures);
}

pub returns : goal.returns
returns c = sym (same_whole c.args.one.now c.args.other.now c.loop-at-2.at (omega arith) (omega arith) c.loop-at-2.invariant.same)
