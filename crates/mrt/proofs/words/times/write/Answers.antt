use Rattle.std.proofs.Common.{eqb, arith}
use Rattle.mrt.specs.inner.Times.{is_set}
use Rattle.mrt.proofs.slots.Timing.{two_written, one_written}
use Rattle.mrt.proofs.words.times.write.Goals as goal

pub returns-then-residue-lt64 : goal.returns-then-residue-lt64
returns-then-residue-lt64 c = record {
  marked = λ other place o p.
      let words = c.args.words in
      two_written c.args.ii c.args.residue place (eqb other c.args.unit) c.args.held (is_set words c.args.times.now other place) (is_set words c.write_one.new.times other place)
      (is_set words c.write_one-then-residue-lt64.new.times other place) c.requires.long c.requires.residue p
      (c.write_one.ensures.marked other place (omega (arith, p, c.requires.reach))) (c.write_one-then-residue-lt64.ensures.marked other place (omega (arith, p, c.requires.reach)));
}

pub returns-else-residue-lt64 : goal.returns-else-residue-lt64
returns-else-residue-lt64 c = record {
  marked = λ other place o p.
      let words = c.args.words in
      one_written c.args.ii c.args.residue place (eqb other c.args.unit) c.args.held (is_set words c.args.times.now other place) (is_set words c.write_one.new.times other place)
      c.requires.long c.requires.residue p c.if-residue-lt64.false (c.write_one.ensures.marked other place (omega (arith, p, c.requires.reach)));
}
