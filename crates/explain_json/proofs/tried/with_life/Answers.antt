use Rattle.std.proofs.Common.{◌≡◌, [], ◌∷◌, ℕ, codes, subst, IfOk}
use Rattle.serde_json.specs.View.{members_view}
use Rattle.explain_json.specs.inner.Objects.{failure_members}
use Rattle.explain_json.proofs.tried.with_life.Goals as goal

pub returns : goal.returns
returns c =
    let made = subst (λ (maker : ℕ). IfOk c.members_of-members.result (λ m. members_view m.entries ≡ failure_members c.args.interval (maker ∷ []) (codes "registers"))) c.from-maker.ensures c.members_of-members.ensures in
    let first = c.with_value-members.ensures _ _ made c.from.ensures in
    c.with_value.ensures _ _ first c.from-2.ensures
