use Rattle.registers.proofs.laws.lives_are_spans.Goals as goal
use Rattle.registers.proofs.lives.Spans.{lives-are_spans}

pub returns : goal.returns
returns c = lives-are_spans
