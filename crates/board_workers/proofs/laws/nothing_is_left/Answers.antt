use Rattle.candidates.proofs.OneOutcomes.{one_outcome}
use Rattle.board_workers.proofs.Left.{left}
use Rattle.board_workers.proofs.laws.nothing_is_left.Goals as goal

pub returns : goal.returns
returns c = record { left = λ loops pieces terms words views reports choices h are. left one_outcome loops pieces terms words views reports h choices are }
