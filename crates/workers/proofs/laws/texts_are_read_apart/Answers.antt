use Rattle.workers.proofs.Apart.{read_apart}
use Rattle.workers.proofs.laws.texts_are_read_apart.Goals as goal

pub returns : goal.returns
returns c = read_apart
