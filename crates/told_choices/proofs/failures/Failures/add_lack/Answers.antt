use Rattle.std.proofs.Common.{◌++◌, [], ◌∷◌, List, sym, ◌∙◌, subst}
use Rattle.told_choices.specs.declared.failures.Lack.TheVariants.{Again, Once}
use Rattle.told_choices.specs.declared.why.Why.{Why}
use Rattle.told_choices.specs.declared.why.Why.TheVariants.{Register}
use Rattle.told_choices.specs.inner.Collected.{AreFailures}
use Rattle.told_choices.proofs.Collecting.{first-lack, next-lack}
use Rattle.told_choices.proofs.failures.Failures.add_lack.Goals as goal

pub returns-in_ok-push-clause-are : goal.returns-in_ok-push-clause-are
returns-in_ok-push-clause-are c problem are fails =
    let whys = c.args.self.now.list.items in
    subst (λ (ws : List Why). AreFailures problem ws Once) (sym c.in_ok-push.ensures.items)
    (first-lack problem whys c.args.self.now.lack c.args.life c.args.schedule c.in_ok-need.need (sym c.is_never.ensures ∙ c.if-is_never.true) are fails c.in_ok-need.ensures)

pub returns-in_ok-push-2-clause-are : goal.returns-in_ok-push-2-clause-are
returns-in_ok-push-2-clause-are c problem are fails =
    let whys = c.args.self.now.list.items in
    let more : AreFailures problem (whys ++ Register c.args.life ∷ []) (Again c.len.result c.args.life c.args.schedule) =
    subst (λ n. AreFailures problem (whys ++ Register c.args.life ∷ []) (Again n c.args.life c.args.schedule)) (sym (c.len.ensures ∙ c.args.self.now.list.ok.0))
    (next-lack problem whys c.args.self.now.lack c.args.life c.args.schedule (sym c.is_never.ensures ∙ c.if-is_never.false) are fails) in
    subst (λ (ws : List Why). AreFailures problem ws (Again c.len.result c.args.life c.args.schedule)) (sym c.in_ok-push-2.ensures.items) more
