use Rattle.std.proofs.Common.{[], ◌∷◌, ◌++◌, filter, sym, ap, ◌∙◌}
use Rattle.std.specs.List.{range_with_len}
use Rattle.std.proofs.lemmas.List.Elements.{filter-append}
use Rattle.lower_bounds.proofs.Texts.{numbers-push}
use Rattle.unit_sets.specs.Fullest.{units_in}
use Rattle.unit_sets.specs.Sets.{is_in}
use Rattle.explain_json.proofs.units.members_of.Goals as goal

pub loop-unit-preserved : goal.loop-unit-preserved
loop-unit-preserved c =
    let unit = c.loop-unit.unit in
    let p = is_in (units_in c.args.set.now.units) in
    c.in_ok-push_member.ensures ∙ ap (λ us. us ++ filter p (unit ∷ [])) c.loop-unit.invariant ∙ sym (filter-append p (range_with_len 0 unit) (unit ∷ [])) ∙ ap (filter p) (sym (numbers-push unit))
