use Rattle.graph_text.proofs.KindRules.{kinds-exclude}
use Rattle.graph_text.proofs.laws.kinds_exclude.Goals as goal

pub returns : goal.returns
returns c = kinds-exclude
