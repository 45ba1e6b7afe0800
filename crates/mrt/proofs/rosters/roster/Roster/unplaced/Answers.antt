use Rattle.std.proofs.Common.{◌≡◌, length, None, replicate, refl, ◌∙◌, ap, rules}
use Rattle.mrt.proofs.placements.Rostering.{IsRoster-new, table_of-new}
use Rattle.mrt.proofs.rosters.roster.Roster.unplaced.Goals as goal

pub invariant_of-result : goal.invariant_of-result
invariant_of-result c =
    let none : c.in_ok-issues.issues.items ≡ replicate (length c.args.groups.items) None =
    c.in_ok-issues.ensures.items_if_clones_equal (λ y h. search rules) ∙ ap (λ n. replicate n None) (c.len.ensures ∙ c.args.groups.ok.0) in
    rw none (IsRoster-new _ _ _ (length c.args.groups.items) refl c.requires)

pub returns : goal.returns
returns c =
    let none : c.in_ok-issues.issues.items ≡ replicate (length c.args.groups.items) None =
    c.in_ok-issues.ensures.items_if_clones_equal (λ y h. search rules) ∙ ap (λ n. replicate n None) (c.len.ensures ∙ c.args.groups.ok.0) in
    rw none (table_of-new _ _ _ _ _ _ refl refl)
