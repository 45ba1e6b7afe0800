use Rattle.explain_json.specs.inner.Objects.{operation_members}
use Rattle.explain_json.proofs.operations.told_operation.Goals as goal

pub returns : goal.returns
unfolding operation_members
returns c = c.object_of.ensures _ c.members_of.ensures
