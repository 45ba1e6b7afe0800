use Rattle.std.proofs.Common.{◌≡◌, ◌∙◌, List, ℕ, ap, subst, IfOk}
use Rattle.serde_json.specs.Data.{string}
use Rattle.serde_json.specs.View.{members_view, view}
use Rattle.listing_json.specs.Documents.{count_value}
use Rattle.listing_json.proofs.rows.members_of.Goals as goal

pub returns : goal.returns
returns c =
    let word = subst (λ (t : List ℕ). IfOk c.to_value-name.result (λ v. view v ≡ string t)) c.as_str.ensures.value c.to_value-name.ensures in
    let name = c.with-members.ensures _ _ (ap members_view c.new.ensures.empty) word in
    let operations = c.with_value-members.ensures _ _ name c.from.ensures in
    let resources = c.with_value-members-2.ensures _ _ operations c.from-2.ensures in
    let recurrences = c.with_value-members-3.ensures _ _ resources c.from-3.ensures in
    c.with_value.ensures _ _ recurrences (c.from-4.ensures ∙ ap count_value c.requires)
