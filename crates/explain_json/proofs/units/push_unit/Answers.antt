use Rattle.std.proofs.Common.{◌≡◌, ◌∙◌, ℕ, zero, suc, List, [], ◌∷◌, ◌++◌, map, refl, sym, ap}
use Rattle.serde_json.specs.Data.{Data}
use Rattle.serde_json.specs.View.{view}
use Rattle.machine_data.specs.Machines.{MachineData}
use Rattle.loop_schedules.specs.Problems.{ProblemData}
use Rattle.explain_json.specs.Units.{unit_objects}
use Rattle.explain_json.specs.inner.Objects.{unit_object}
use Rattle.explain_json.proofs.Lists.{pushed}
use Rattle.explain_json.proofs.units.push_unit.Goals as goal

objects-one : (machine : MachineData) (p : ProblemData) (choices : List ℕ) (unit uses : ℕ) → (uses ≡ 0 → ⊥) → unit_objects machine p choices unit uses ≡ unit_object machine p choices unit uses ∷ []
objects-one machine p choices unit zero some = absurd (some refl)
objects-one machine p choices unit (suc n) some = refl

pub returns : goal.returns
returns c =
    let m = c.args.machine.now in
    let p = c.args.prepared.now in
    let xs = c.args.choices.now in
    record {
      ok = pushed c.args.values.now.items c.push.new.self.items c.in_ok-value.value (unit_object m p xs c.args.unit c.args.uses) c.in_ok-push.ensures.items c.in_ok-value.ensures
          ∙ ap (λ (ds : List Data). map view c.args.values.now.items ++ ds) (sym (objects-one m p xs c.args.unit c.args.uses c.if-uses-eq0.false));
    }
