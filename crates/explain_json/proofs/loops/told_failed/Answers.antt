use Rattle.std.proofs.Common.{◌≡◌, ◌∙◌, ◌+◌, List, ℕ, ap, ap₂, subst, IfOk}
use Rattle.serde_json.specs.Data.{string}
use Rattle.serde_json.specs.View.{view}
use Rattle.explain_json.specs.Parts.{count_value}
use Rattle.explain_json.specs.inner.Seen.{loop_members}
use Rattle.explain_json.proofs.loops.told_failed.Goals as goal

pub returns : goal.returns
unfolding loop_members
returns c ms has =
    let last = c.from-last.ensures ∙ ap count_value (ap₂ (λ (m n : ℕ). m + n) c.mii.ensures.value c.ceiling.ensures.value) in
    let word = subst (λ (t : List ℕ). IfOk c.to_value.result (λ v. view v ≡ string t)) c.word.ensures.value c.to_value.ensures in
    let cause = c.with-members.ensures _ _ has word in
    c.object_of.ensures _ (c.with_value.ensures _ _ cause last)
