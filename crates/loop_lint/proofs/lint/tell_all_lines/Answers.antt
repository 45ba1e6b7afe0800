use Rattle.std.proofs.Common.{[], refl, arith}
use Rattle.loop_lint.proofs.lint.tell_all_lines.Goals as goal

pub loop-at-init : goal.loop-at-init
loop-at-init c = record {
  goes = record { more = []; are = c.requires.names; same = refl };
  room = omega arith;
  few = omega arith;
}
