use Rattle.candidates.proofs.OneChoices.{one_choice}
use Rattle.candidates.proofs.laws.choice_laws.Goals as goal

pub returns : goal.returns
returns c = record { one = one_choice }
