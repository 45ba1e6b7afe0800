use Rattle.std.proofs.Common.{◌≡◌, ◌⊎◌, ⊎_elim, List, length, ap, subst}
use Rattle.loop_schedules.specs.Problems.{ProblemData}
use Rattle.told_choices.specs.declared.failures.Lack.{Lack}
use Rattle.told_choices.specs.declared.failures.Lack.TheVariants.{Never, Once}
use Rattle.told_choices.specs.declared.why.Why.{Why}
use Rattle.told_choices.specs.inner.Collected.{AreFailures, AreReasons, is_again}
use Rattle.told_choices.proofs.Collecting.{few-told, last-each, last-told}
use Rattle.told_choices.proofs.failures.Failures.tell_last.Goals as goal

few : (p : ProblemData) (whys : List Why) (lack : Lack) → (lack ≡ Never) ⊎ (lack ≡ Once) → AreFailures p whys lack → AreReasons p (length whys) whys
few p whys lack which are = record { each = are.each; tell_needs = few-told p whys lack (⊎_elim (λ e. ap is_again e) (λ e. ap is_again e) which) are }

pub returns-in-Never : goal.returns-in-Never
returns-in-Never c = λ problem are. few problem c.args.self.now.list.items c.args.self.now.lack c.in-Never.is are

pub returns-in-Never-2 : goal.returns-in-Never-2
returns-in-Never-2 c = λ problem are. few problem c.args.self.now.list.items c.args.self.now.lack c.in-Never.is are

pub returns-in_ok-need-in-Again : goal.returns-in_ok-need-in-Again
returns-in_ok-need-in-Again c = λ problem are.
    let again = subst (AreFailures problem c.args.self.now.list.items) c.in-Again.is are in
    record {
      each = last-each problem c.args.self.now.list.items c.in-Again.place c.in-Again.life c.in-Again.schedule c.in_ok-need-in-Again.need again c.in_ok-need-in-Again.ensures;
      tell_needs = last-told problem c.args.self.now.list.items c.in-Again.place c.in-Again.life c.in-Again.schedule c.in_ok-need-in-Again.need again;
    }
