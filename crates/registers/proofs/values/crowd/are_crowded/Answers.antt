use Rattle.std.proofs.Common.{arith}
use Rattle.registers.proofs.lives.Crowded.{crowded-none}
use Rattle.registers.proofs.values.crowd.are_crowded.Goals as goal

pub returns : goal.returns
returns c = λ more.
    crowded-none c.args.ii c.args.registers c.crowded_row.result c.args.lives.now c.crowded_row.ensures c.requires.registers_some c.requires.lives (grind (arith, c.crowd_in.ensures))
