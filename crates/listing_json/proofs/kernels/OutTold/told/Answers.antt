use Rattle.std.proofs.Common.{◌≡◌, List, ℕ, subst, IfOk}
use Rattle.serde_json.specs.Data.{string}
use Rattle.serde_json.specs.View.{view}
use Rattle.listing_json.proofs.kernels.OutTold.told.Goals as goal

pub returns : goal.returns
returns c =
    let name = subst (λ (t : List ℕ). IfOk c.to_value-name.result (λ v. view v ≡ string t)) c.as_str.ensures.value c.to_value-name.ensures in
    c.told_two.ensures _ _ name c.from.ensures
