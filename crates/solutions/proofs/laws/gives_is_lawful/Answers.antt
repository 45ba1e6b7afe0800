use Rattle.solutions.proofs.Rightness.{gives-is_lawful}
use Rattle.solutions.proofs.laws.gives_is_lawful.Goals as goal

pub returns : goal.returns
returns c = gives-is_lawful
