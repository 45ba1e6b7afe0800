use Rattle.std.proofs.Common.{◌≡◌, length, map, replicate, None, refl, rules, sym, ap, ◌∙◌}
use Rattle.std.proofs.lemmas.List.{length-map}
use Rattle.mrt.specs.inner.Rosters.{group_of}
use Rattle.mrt.proofs.placements.Rostering.{table_of-new}
use Rattle.mrt.proofs.rosters.roster.Roster.reset.Goals as goal

pub returns : goal.returns
returns c =
    let groups = c.self.inside.groups.items in
    let alternatives = c.self.inside.choices.alternatives in
    let operations = map (group_of alternatives) groups in
    let long : c.self.inside.issues.len ≡ length operations = c.self.inside.issues.ok.0 ∙ c.self.invariant.whole ∙ sym (length-map groups (group_of alternatives)) in
    let none = c.fill.ensures.items (λ y h. search rules) ∙ ap (λ n. replicate n None) long in
    rw (none, c.reset.ensures.alternatives, ← c.self.view_is) (table_of-new c.args.ii c.reset.new.self.interval alternatives groups operations (length operations) c.reset.ensures.interval refl)
