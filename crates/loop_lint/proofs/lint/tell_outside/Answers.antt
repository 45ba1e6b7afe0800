use Rattle.std.proofs.Common.{ap, arith, sym}
use Rattle.loop_lines.specs.Parsed.{form_seen}
use Rattle.loop_lint.proofs.Lints.{goes_loop, goes_syntax, no_loop}
use Rattle.loop_lint.proofs.lint.tell_outside.Goals as goal

pub returns-in_default-form : goal.returns-in_default-form
returns-in_default-form c = record {
  told = λ before are.
      goes_syntax before c.args.names.now c.args.at.number c.args.at.loops c.syntax_word-word.result c.args.at.rest.now c.next_line.result.0.now c.next_line.result.1.now (form_seen c.in-Some.form) c.args.faults.now.items c.tell.new.faults.items
      c.next_line.ensures.lines (sym c.in-Some.ensures) (no_loop c.in-Some.form c.in_default-form.not-Loop) c.syntax_word-word.ensures c.in_ok-tell.ensures are;
  shorter = c.next_line.ensures.shorter;
  room = omega (arith, c.next_line.ensures.shorter);
  few = omega arith;
}

pub returns-clause-told : goal.returns-clause-told
returns-clause-told c = λ before are.
    goes_loop before c.args.names.now c.tell_opening.new.names c.args.at.number c.args.at.loops c.in_ok-number.number c.args.at.rest.now c.next_line.result.0.now c.next_line.result.1.now c.in_ok-number.rest.now (form_seen c.in-Some.form) c.in-Loop.name.now
    c.args.faults.now.items c.tell_opening.new.faults.items c.tell_block.new.faults.items
    c.next_line.ensures.lines (sym c.in-Some.ensures) (ap form_seen c.in-Loop.is) c.in_ok-tell_opening.ensures.names (c.in_ok-tell_opening.ensures.told before are) c.in_ok-number.ensures.told are
