use Rattle.std.proofs.Common.{rules, ◌≡◌, ◌<◌, ◌-◌, ◌∙◌, ℕ, List, ap, length, sym, subst, IfOk}
use Rattle.std.specs.List.{All}
use Rattle.figures.proofs.Busy.{units-below}
use Rattle.serde_json.specs.Data.{array, string}
use Rattle.serde_json.specs.View.{items_of, members_view, view}
use Rattle.figures.specs.Slots.{percent_of}
use Rattle.explain_json.specs.Kernels.{slots_of}
use Rattle.explain_json.specs.Parts.{array_of, count_value}
use Rattle.explain_json.specs.Units.{unit_name}
use Rattle.explain_json.specs.inner.Objects.{unit_members}
use Rattle.explain_json.proofs.kernels.members_by.Goals as goal

pub told_unit_names-requires : goal.told_unit_names-requires
told_unit_names-requires c =
    subst (All (λ (unit : ℕ). unit < length c.args.machine.now.units)) (sym c.requires.used) (units-below c.args.machine.now c.args.takers.now)

pub returns : goal.returns
unfolding unit_members
returns c =
    let machine = c.args.machine.now in
    let takers = c.args.takers.now in
    let used = c.requires.used in
    let percents = subst (λ (units : List ℕ). IfOk c.told_percents-percents.result (λ v. view v ≡ array_of (λ unit. count_value (percent_of takers unit)) units)) used c.told_percents-percents.ensures in
    let told = c.told_figures-told.ensures _ percents in
    let slots = subst (λ (units : List ℕ). IfOk c.told_slots-slots.result (λ v. view v ≡ array (items_of (slots_of takers units)))) used c.told_slots-slots.ensures in
    let units = subst (λ (units : List ℕ). IfOk c.told_unit_names.result (λ v. view v ≡ array_of (λ unit. string (unit_name machine unit)) units)) used c.told_unit_names.ensures in
    let figures = c.with-members.ensures _ _ (ap members_view c.new.ensures.empty) told in
    let free : view c.from-idle.result ≡ count_value (length machine.units - length c.args.used.now) = search rules in
    let idle = c.with_value-members.ensures _ _ figures (free ∙ ap (λ (units : List ℕ). count_value (length machine.units - length units)) used) in
    let slotted = c.with-members-2.ensures _ _ idle slots in
    c.with.ensures _ _ slotted units
