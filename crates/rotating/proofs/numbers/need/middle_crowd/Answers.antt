use Rattle.std.proofs.Common.{◌%◌, arith}
use Rattle.std.proofs.Math.Nat.{mod-lt}
use Rattle.registers.proofs.lives.Crowded.{crowded-none}
use Rattle.rotating.proofs.numbers.need.middle_crowd.Goals as goal

pub returns-in-Some : goal.returns-in-Some
returns-in-Some c = λ number some lt.
    crowded-none c.args.ii number (c.in-Some.life.now.first % c.args.ii) c.args.lives.now (mod-lt c.in-Some.life.now.first c.requires.some) some c.requires.lives (grind (arith, c.crowd_in.ensures, lt))
