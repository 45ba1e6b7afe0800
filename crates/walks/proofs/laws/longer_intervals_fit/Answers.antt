use Rattle.walks.proofs.Settling.{fits-at_longer}
use Rattle.walks.proofs.laws.longer_intervals_fit.Goals as goal

pub returns : goal.returns
returns c = λ edges bound ii b le. fits-at_longer edges bound ii le b.fits
