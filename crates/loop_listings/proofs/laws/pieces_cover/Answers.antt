use Rattle.loop_listings.proofs.Covering.{each_in_one_piece, none_is_empty}
use Rattle.loop_listings.proofs.laws.pieces_cover.Goals as goal

pub returns-clause-each : goal.returns-clause-each
returns-clause-each c = each_in_one_piece

pub returns-clause-some : goal.returns-clause-some
returns-clause-some c = none_is_empty
