use Rattle.std.proofs.Common.{◌≡◌, ◌≤◌, ◌<◌, ◌++◌, [], ◌∷◌, length, filter, sym, ap, ◌∙◌, subst, arith}
use Rattle.std.specs.List.{All, range_with_len}
use Rattle.std.proofs.lemmas.List.Elements.{filter-append}
use Rattle.machine_data.specs.declared.limits.TheConstants.{MAX_UNITS}
use Rattle.figures.proofs.Busy.{numbers-push, units-below}
use Rattle.figures.specs.Slots.{is_used, used_units}
use Rattle.figures.proofs.takers.Takers.units.Goals as goal

pub loop-unit-preserved : goal.loop-unit-preserved
loop-unit-preserved c =
    let unit = c.loop-unit.unit in
    let p = is_used c.args.self.now in
    c.in_ok-push_used.ensures ∙ ap (λ us. us ++ filter p (unit ∷ [])) c.loop-unit.invariant ∙ sym (filter-append p (range_with_len 0 unit) (unit ∷ [])) ∙ ap (filter p) (sym (numbers-push unit))

pub returns : goal.returns
unfolding used_units
returns c =
    let machine = c.args.machine.now in
    let same = ap length c.units-unit-end.ensures.value in
    let e : c.loop-unit.unit ≡ length machine.units = omega (arith, c.loop-unit-test.false) in
    let same_units : c.loop-unit.units.items ≡ used_units machine c.args.self.now = c.loop-unit.invariant ∙ ap (λ n. filter (is_used c.args.self.now) (range_with_len 0 n)) e in
    let most : length machine.units ≤ MAX_UNITS = c.units-unit-end.ensures.well_formed.units_few in
    record {
      units = same_units;
      few = subst (All (λ unit. unit < MAX_UNITS)) (sym same_units) (λ k d h. let below = units-below machine c.args.self.now k d h in omega (arith, below, most));
    }
