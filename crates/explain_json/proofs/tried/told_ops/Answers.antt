use Rattle.explain_json.proofs.tried.told_ops.Goals as goal

pub returns : goal.returns
returns c = c.object_of.ensures _ c.members_of.ensures
