use Rattle.solutions.proofs.Breaking.{broken-is_unlawful}
use Rattle.solutions.proofs.laws.broken_is_unlawful.Goals as goal

pub returns : goal.returns
returns c = broken-is_unlawful
