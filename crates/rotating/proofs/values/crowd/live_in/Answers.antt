use Rattle.std.proofs.Common.{length, sym, ap, subst, arith}
use Rattle.std.specs.List.{All}
use Rattle.registers.specs.Residues.{IsLifeSpan}
use Rattle.rotating.proofs.emitted.Ranks.{lives-few}
use Rattle.rotating.proofs.lives.Spans.{are-spans}
use Rattle.rotating.proofs.values.crowd.live_in.Goals as goal

pub crowd_in-requires-clause-lives : goal.crowd_in-requires-clause-lives
crowd_in-requires-clause-lives c = subst (All IsLifeSpan) (sym c.requires.lives) (are-spans c.args.schedule.now c.ii.ensures.well_formed)

pub crowd_in-requires-clause-few_lives : goal.crowd_in-requires-clause-few_lives
crowd_in-requires-clause-few_lives c =
    let few = lives-few c.args.schedule.now in
    let same = ap length c.requires.lives in
    let most = c.ii.ensures.well_formed.problem.loop.statements_few in
    omega arith
