use Rattle.std.proofs.Common.{◌≡◌, ℕ, [], ◌∷◌, ◌++◌, List, true, sym, ap, ◌∙◌}
use Rattle.std.proofs.lemmas.Bool.{cond-true}
use Rattle.figures.specs.Slots.{is_used}
use Rattle.figures.proofs.takers.Takers.push_used.Goals as goal

pub returns-in_ok-push : goal.returns-in_ok-push
returns-in_ok-push c =
    let unit = c.args.unit in
    let schedule = c.args.self.now in
    let on : is_used schedule unit ≡ true = sym c.is_used.ensures ∙ c.if-is_used.true in
    c.in_ok-push.ensures.items ∙ ap (λ (us : List ℕ). c.args.units.now.items ++ us) (sym (cond-true (is_used schedule unit) (unit ∷ []) [] on))
