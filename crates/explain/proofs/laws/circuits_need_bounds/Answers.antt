use Rattle.std.proofs.Common.{◌∷◌}
use Rattle.explain.proofs.laws.circuits_need_bounds.Goals as goal

pub returns : goal.returns
returns c = λ edges bound e circuit is critical. (critical.exceeds, is.fits critical.start (e ∷ circuit) critical.closed)
