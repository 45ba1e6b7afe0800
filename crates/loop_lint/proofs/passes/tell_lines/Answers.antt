use Rattle.std.proofs.Common.{[], arith}
use Rattle.loop_reader.specs.Meaning.{forms_of, whole}
use Rattle.loop_lint.proofs.Passing.{told_first, told_next}
use Rattle.loop_lint.proofs.passes.tell_lines.Goals as goal

pub loop-alloc-init : goal.loop-alloc-init
loop-alloc-init c =
    let t = c.requires.before in
    record {
      told = told_first c.args.number c.args.text.now c.args.faults.now.items c.args.before.now t;
      room = omega (arith, t.arrays, t.params, t.statements);
      numbers = omega arith;
      past = omega arith;
    }

pub loop-alloc-preserved : goal.loop-alloc-preserved
loop-alloc-preserved c =
    let v = c.loop-alloc.invariant in
    let line = c.in_ok-ends.ensures in
    record {
      told = told_next c.args.number c.args.text.now (whole [] (forms_of c.args.text.now)) c.args.faults.now.items c.loop-alloc.at c.loop-alloc.rest.now c.next_line.result.0.now c.next_line.result.1.now c.loop-alloc.before c.tell_line.new.before c.loop-alloc.faults.items c.tell_line.new.faults.items c.in_ok-ends.ends
          c.next_line.ensures.lines c.if-ends.false (λ lines is. line.told lines (whole [] (forms_of c.args.text.now)) is c.requires.block) v.told;
      room = omega (arith, v.room, line.count, c.next_line.ensures.shorter);
      numbers = omega (arith, v.numbers, c.next_line.ensures.shorter);
      past = omega (arith, v.past);
    }
