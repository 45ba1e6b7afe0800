use Rattle.explain_json.proofs.tried.told_late.Goals as goal

pub returns : goal.returns
returns c = c.object_of.ensures _ (c.with_value.ensures _ _ c.members_of-members.ensures c.from.ensures)
