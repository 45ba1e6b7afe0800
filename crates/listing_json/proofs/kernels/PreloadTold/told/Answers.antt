use Rattle.std.proofs.Common.{rules, ◌≡◌, IfOk}
use Rattle.serde_json.specs.View.{view}
use Rattle.listing_json.specs.Documents.{digits_value}
use Rattle.listing_json.proofs.kernels.PreloadTold.told.Goals as goal

pub returns : goal.returns
returns c =
    let digits : IfOk c.told_digits.result (λ v. view v ≡ digits_value c.args.self.now.value) = search rules in
    c.told_two.ensures _ _ c.from.ensures digits
