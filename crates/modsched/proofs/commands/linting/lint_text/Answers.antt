use Rattle.std.proofs.Common.{refl}
use Rattle.modsched.proofs.Linting.{fine_told}
use Rattle.modsched.proofs.commands.linting.lint_text.Goals as goal

pub returns-in-Ok-clause-brings : goal.returns-in-Ok-clause-brings
returns-in-Ok-clause-brings c = record {
  machine = c.named.result.0;
  loops = c.named.result.1;
  printed = c.in-Ok.lint;
  is_machine = c.named.ensures.machine;
  is_loops = c.named.ensures.loops;
  is_text = c.in-Ok.ensures.exact;
  is_answer = refl;
  fine = fine_told c.args.texts.now c.args.first.now c.args.last.now c.named.result.0 c.named.result.1 c.in-Ok.lint c.named.ensures.machine c.named.ensures.loops c.in-Ok.ensures.silent;
}
