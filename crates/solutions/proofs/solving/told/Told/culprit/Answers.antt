use Rattle.std.proofs.Common.{◌≡◌, ◌-◌, List, length, Some, refl, sym, subst}
use Rattle.std.specs.Prelude.{slice_get}
use Rattle.solutions.specs.declared.solving.tried.Failure.{Failure}
use Rattle.solutions.proofs.Telling.{last-is, told-evidence}
use Rattle.solutions.proofs.solving.told.Told.culprit.Goals as goal

pub returns-in-Some : goal.returns-in-Some
returns-in-Some c =
    let failure : Failure = c.in-Some.failure.now in
    let at : slice_get c.args.self.now.failures.items (length c.args.self.now.failures.items - 1) ≡ Some failure
    = subst (λ (failures : List Failure). slice_get failures (length failures - 1) ≡ Some failure) c.deref.ensures.value (sym c.in-Some.ensures.value) in
    record {
      value = last-is c.args.self.now.outcome c.args.self.now.failures.items failure _ c.in_default.not-Met at c.as_ref.ensures.value;
      evidence = λ problem told. told-evidence problem c.args.self.now c.args.self.now.outcome failure _ told refl c.in_default.not-Met at c.as_ref.ensures.value;
    }
