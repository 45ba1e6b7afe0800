use Rattle.std.proofs.Common.{refl, rules}
use Rattle.loop_lint.proofs.Tables.{empty_known, table_none}
use Rattle.loop_lint.proofs.block.Table.new.Goals as goal

pub returns : goal.returns
returns c = table_none _ (empty_known c.new.result c.new.ensures.empty) (search rules) refl refl refl refl refl
