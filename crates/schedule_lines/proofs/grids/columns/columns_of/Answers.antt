use Rattle.std.proofs.Common.{◌≡◌, ◌<◌, ℕ, List, map, sym, ap, ◌∙◌, subst}
use Rattle.std.specs.List.{All}
use Rattle.std.proofs.lemmas.List.{take_all}
use Rattle.std.proofs.lemmas.List.Elements.{All-map}
use Rattle.machine_data.specs.declared.limits.TheConstants.{MAX_UNITS}
use Rattle.figures.specs.Slots.{used_units}
use Rattle.schedule_lines.specs.declared.grids.columns.Column.{Column}
use Rattle.schedule_lines.specs.inner.Grids.{column_of, columns_in}
use Rattle.schedule_lines.proofs.grids.columns.columns_of.Goals as goal

pub returns : goal.returns
returns c =
    let machine = c.args.machine.now in
    let slots = c.args.slots.now in
    let units : List ℕ = c.as_slice-unit-items.result.now in
    let used : c.in_ok-units.units.items ≡ used_units machine slots = c.in_ok-units.ensures.units ∙ ap (used_units machine) c.takers.ensures in
    let all : c.loop-unit.columns.items ≡ columns_in machine slots
    = c.loop-unit.invariant ∙ ap (map (column_of machine slots)) (take_all c.loop-unit.unit-index units c.loop-unit-test.false ∙ c.as_slice-unit-items.ensures.value ∙ used) in
    let Few = λ (column : Column). column.unit < MAX_UNITS in
    record {
      columns = all;
      few = subst (All Few) (sym all) (All-map Few (column_of machine slots) (used_units machine slots) (subst (All (λ unit. unit < MAX_UNITS)) used c.in_ok-units.ensures.few));
    }
