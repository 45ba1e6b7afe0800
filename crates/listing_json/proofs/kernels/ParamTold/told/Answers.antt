use Rattle.std.proofs.Common.{rules, ◌≡◌, List, ℕ, subst, IfOk}
use Rattle.serde_json.specs.Data.{string}
use Rattle.serde_json.specs.View.{view}
use Rattle.listing_json.specs.Documents.{digits_value}
use Rattle.listing_json.proofs.kernels.ParamTold.told.Goals as goal

pub returns : goal.returns
returns c =
    let name = subst (λ (t : List ℕ). IfOk c.to_value-name.result (λ v. view v ≡ string t)) c.as_str.ensures.value c.to_value-name.ensures in
    let digits : IfOk c.told_digits.result (λ v. view v ≡ digits_value c.args.self.now.value) = search rules in
    c.told_two.ensures _ _ name digits
