use Rattle.std.proofs.Common.{rules, ◌≡◌, subst, sym, IfOk}
use Rattle.serde_json.specs.View.{view}
use Rattle.kernel.specs.declared.kernels.operation.Source.{Source}
use Rattle.listing_json.specs.Documents.{digits_value, source_value}
use Rattle.listing_json.proofs.kernels.SourceTold.told.Goals as goal

pub returns-in-Register : goal.returns-in-Register
returns-in-Register c = subst (λ (s : Source). IfOk c.told_one.result (λ v. view v ≡ source_value s)) (sym c.in-Register.is) (c.told_one.ensures _ c.from.ensures)

pub returns-in-Parameter : goal.returns-in-Parameter
returns-in-Parameter c =
    subst (λ (s : Source). IfOk c.told_one-in-Parameter.result (λ v. view v ≡ source_value s)) (sym c.in-Parameter.is) (c.told_one-in-Parameter.ensures _ c.from-in-Parameter.ensures)

pub returns-in-Constant : goal.returns-in-Constant
returns-in-Constant c =
    let digits : IfOk c.told_digits.result (λ v. view v ≡ digits_value c.in-Constant.value) = search rules in
    subst (λ (s : Source). IfOk c.told_one-in-Constant.result (λ v. view v ≡ source_value s)) (sym c.in-Constant.is) (c.told_one-in-Constant.ensures _ digits)
