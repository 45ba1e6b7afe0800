use Rattle.reason_lines.proofs.Keeping.{least-keeps}
use Rattle.reason_lines.proofs.laws.least_is_least.Goals as goal

pub returns : goal.returns
returns c = least-keeps
