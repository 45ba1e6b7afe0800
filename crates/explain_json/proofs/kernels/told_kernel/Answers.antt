use Rattle.std.proofs.Common.{◌≡◌, ◌∙◌, List, ℕ, ap, subst, IfOk}
use Rattle.kernel.specs.declared.kernels.parts.Parts.{Parts}
use Rattle.serde_json.specs.Data.{boolean, string}
use Rattle.serde_json.specs.View.{members_view, view}
use Rattle.told_choices.specs.Holds.{hold_word}
use Rattle.explain_json.specs.Parts.{count_value}
use Rattle.explain_json.specs.inner.Objects.{unit_members, with_values}
use Rattle.explain_json.proofs.kernels.told_kernel.Goals as goal

pub returns : goal.returns
unfolding unit_members with_values
returns c =
    let many = ap (λ (k : Parts). k.stages) c.parts.ensures.value in
    let units = subst (λ (n : ℕ). IfOk c.members_of-members.result (λ m. members_view m.entries ≡ unit_members c.args.machine.now c.args.met.now.schedule c.args.figures.now n)) many c.members_of-members.ensures in
    let values = c.with_values-members.ensures _ units in
    let word = subst (λ (t : List ℕ). IfOk c.to_value.result (λ v. view v ≡ string t)) (c.word-held.ensures ∙ ap hold_word c.hold_of.ensures.value) c.to_value.ensures in
    let held = c.with-members.ensures _ _ values word in
    let interval = c.with_value-members.ensures _ _ held c.from.ensures in
    let least = c.with_value-members-2.ensures _ _ interval (c.from-2.ensures ∙ ap boolean c.is_least_possible-least.ensures) in
    let registers = c.with_value-members-3.ensures _ _ least (c.from-registers.ensures ∙ ap count_value c.registers.ensures.value) in
    c.object_of.ensures _ (c.with_value.ensures _ _ registers (c.from-3.ensures ∙ ap count_value many))
