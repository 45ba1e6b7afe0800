use Rattle.explain_json.proofs.tried.told_with_need.Goals as goal

pub returns : goal.returns
returns c = c.object_of.ensures _ (c.with_value.ensures _ _ c.with_life-members.ensures c.told_need.ensures)
