use Rattle.board.proofs.Drawing.{nothing_left}
use Rattle.board.proofs.law.dry_leaves_nothing.Goals as goal

pub returns : goal.returns
returns c = nothing_left
