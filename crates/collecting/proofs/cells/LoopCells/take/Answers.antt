use Rattle.std.proofs.Common.{◌∙◌}
use Rattle.collecting.proofs.Climbing.{cell_is}
use Rattle.collecting.proofs.cells.LoopCells.take.Goals as goal

pub returns-clause-was : goal.returns-clause-was
returns-clause-was c = c.take.ensures.value ∙ c.index_mut.ensures.value ∙ cell_is c.args.self.now.cells.items c.args.above c.index_mut.result.now c.requires
