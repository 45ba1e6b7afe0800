use Rattle.std.proofs.Common.{◌<◌, ◌≡◌, ◌∙◌, ℕ, List, length, sym, subst}
use Rattle.std.specs.Prelude.{IfOk}
use Rattle.std.specs.List.{All, range_with_len}
use Rattle.std.proofs.lemmas.List.Elements.{All-filter}
use Rattle.serde_json.specs.Data.{string}
use Rattle.serde_json.specs.View.{view}
use Rattle.unit_sets.specs.Fullest.{units_in}
use Rattle.unit_sets.specs.Sets.{is_in}
use Rattle.explain_json.specs.Parts.{array_of}
use Rattle.explain_json.specs.Units.{unit_name}
use Rattle.explain_json.proofs.Lists.{range-below}
use Rattle.explain_json.proofs.units.told_members.Goals as goal

pub told_unit_names-requires : goal.told_unit_names-requires
told_unit_names-requires c =
    let n = length c.args.machine.now.units in
    subst (All (λ (unit : ℕ). unit < n)) (sym (c.as_slice.ensures.value ∙ c.in_ok-units.ensures))
    (All-filter (is_in (units_in c.args.set.now.units)) (λ (unit : ℕ). unit < n) (range_with_len 0 n) (range-below n))

pub returns : goal.returns
returns c =
    subst (λ (us : List ℕ). IfOk c.told_unit_names.result (λ v. view v ≡ array_of (λ unit. string (unit_name c.args.machine.now unit)) us)) (c.as_slice.ensures.value ∙ c.in_ok-units.ensures)
    c.told_unit_names.ensures
