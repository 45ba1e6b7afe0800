use Rattle.std.proofs.Common.{Result, Ok, Err, length}
use Rattle.std.specs.Prelude.{IfOk}
use Rattle.figures.specs.Figures.{AreFigures}
use Rattle.told_choices.specs.inner.Collected.{AreReasons}
use Rattle.told_choices.proofs.told.figures_at_last.Goals as goal

both : {A E : Type 0} (P : Type 0) (Q : A → Type 0) (r : Result A E) → P → IfOk r Q → IfOk r (λ x. P × Q x)
both P Q (Ok x) p q = (p, q)
both P Q (Err e) p q = q

pub returns : goal.returns
returns c = λ problem are.
    both (AreReasons problem (length c.args.failures.now.list.items) c.tell_last.new.self.list.items) (AreFigures c.args.schedule.now) c.figures_of.result
    (c.in_ok-tell_last.ensures problem are) c.figures_of.ensures
