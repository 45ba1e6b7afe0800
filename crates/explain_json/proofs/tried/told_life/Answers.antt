use Rattle.explain_json.proofs.tried.told_life.Goals as goal

pub returns : goal.returns
returns c = c.object_of.ensures _ c.with_life.ensures
