use Rattle.overlap.proofs.laws.registers_hold_values.Goals as goal
use Rattle.overlap.proofs.Passes.{registers-hold_values}

pub returns : goal.returns
returns c = registers-hold_values
