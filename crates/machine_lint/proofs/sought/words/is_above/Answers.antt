use Rattle.std.proofs.Common.{rules, ◌∙◌, sym}
use Rattle.machine_lint.proofs.InOrder.{above-last, lt-less}
use Rattle.machine_lint.proofs.sought.words.is_above.Goals as goal

pub returns-in-Some : goal.returns-in-Some
returns-in-Some c = λ below. above-last c.args.words.now c.in-Some.last.now c.args.word.now c.requires (search rules) (search rules) (sym c.cmp.ensures ∙ lt-less c.cmp.result (sym c.is_lt.ensures ∙ below))
