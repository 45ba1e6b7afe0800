use Rattle.std.proofs.Common.{◌≡◌, ◌∙◌, ◌+◌, List, ℕ, ap, subst, sym, IfOk}
use Rattle.serde_json.specs.Data.{string}
use Rattle.serde_json.specs.View.{view}
use Rattle.kernel.specs.declared.kernels.parts.Parts.{Parts}
use Rattle.loop_listings.specs.declared.choices.Choice.{Choice}
use Rattle.loop_listings.specs.Texts.{mii_in}
use Rattle.listing_json.specs.Documents.{choice_value, count_value, kernel_value}
use Rattle.listing_json.proofs.rows.told_row.Goals as goal

pub returns-in-Met : goal.returns-in-Met
returns-in-Met c =
    let row = c.args.row.now in
    let kernel = subst (λ (parts : Parts). IfOk c.told_kernel-kernel.result (λ v. view v ≡ kernel_value parts)) c.parts.ensures.value c.told_kernel-kernel.ensures in
    subst (λ (choice : Choice). IfOk c.object_of.result (λ v. view v ≡ choice_value (mii_in row + c.args.ceiling) row choice)) (sym c.in-Met.is)
    (c.object_of.ensures _ (c.with.ensures _ _ c.members_of-members.ensures kernel))

pub returns-in-Failed : goal.returns-in-Failed
returns-in-Failed c =
    let row = c.args.row.now in
    let word = subst (λ (t : List ℕ). IfOk c.to_value.result (λ v. view v ≡ string t)) c.word.ensures.value c.to_value.ensures in
    let cause = c.with-members.ensures _ _ c.members_of-members.ensures word in
    let last = c.from-last.ensures ∙ ap (λ (n : ℕ). count_value (n + c.args.ceiling)) c.max-least.ensures in
    subst (λ (choice : Choice). IfOk c.object_of-in-Failed.result (λ v. view v ≡ choice_value (mii_in row + c.args.ceiling) row choice)) (sym c.in-Failed.is)
    (c.object_of-in-Failed.ensures _ (c.with_value.ensures _ _ cause last))
