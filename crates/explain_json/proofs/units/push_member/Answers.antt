use Rattle.std.proofs.Common.{◌≡◌, ℕ, [], ◌∷◌, ◌++◌, List, true, sym, ap, ◌∙◌}
use Rattle.std.proofs.lemmas.Bool.{cond-true}
use Rattle.unit_sets.specs.Fullest.{units_in}
use Rattle.unit_sets.specs.Sets.{is_in}
use Rattle.explain_json.proofs.units.push_member.Goals as goal

pub returns-in_ok-push : goal.returns-in_ok-push
returns-in_ok-push c =
    let unit = c.args.unit in
    let on : is_in (units_in c.args.set.now.units) unit ≡ true = sym c.has.ensures ∙ c.if-has.true in
    c.in_ok-push.ensures.items ∙ ap (λ (us : List ℕ). c.args.units.now.items ++ us) (sym (cond-true (is_in (units_in c.args.set.now.units) unit) (unit ∷ []) [] on))
