use Rattle.std.proofs.Common.{rules, ◌≡◌, Option, subst, sym, IfOk}
use Rattle.serde_json.specs.Data.{number}
use Rattle.serde_json.specs.Find.{of_integer}
use Rattle.serde_json.specs.View.{view}
use Rattle.kernel.specs.declared.kernels.operation.Address.{Address}
use Rattle.listing_json.specs.Documents.{address_value, option_value}
use Rattle.listing_json.proofs.kernels.told_address.Goals as goal

pub returns-in-Some : goal.returns-in-Some
returns-in-Some c =
    let offset : view c.from-in-Some.result ≡ number (of_integer c.in-Some.cell.offset) = search rules in
    subst (λ (cell : Option Address). IfOk c.told_two.result (λ v. view v ≡ option_value address_value cell)) (sym c.in-Some.is) (c.told_two.ensures _ _ c.from.ensures offset)
