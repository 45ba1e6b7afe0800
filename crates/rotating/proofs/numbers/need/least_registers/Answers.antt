use Rattle.std.proofs.Common.{length, sym, ap, ◌∙◌, subst, arith}
use Rattle.std.specs.List.{All}
use Rattle.registers.specs.Residues.{IsLifeSpan}
use Rattle.rotating.proofs.emitted.Ranks.{lives-few}
use Rattle.rotating.proofs.lives.Spans.{are-spans}
use Rattle.rotating.proofs.numbers.need.least_registers.Goals as goal

pub middle_crowd-requires-clause-lives : goal.middle_crowd-requires-clause-lives
middle_crowd-requires-clause-lives c =
    subst (All IsLifeSpan) (sym (c.as_slice-listed.ensures.value ∙ c.in_ok-lives.ensures.exact)) (are-spans c.args.schedule.now c.ii-ii.ensures.well_formed)

pub middle_crowd-requires-clause-few_lives : goal.middle_crowd-requires-clause-few_lives
middle_crowd-requires-clause-few_lives c =
    let few = lives-few c.args.schedule.now in
    let same = ap length (c.as_slice-listed.ensures.value ∙ c.in_ok-lives.ensures.exact) in
    let most = c.ii-ii.ensures.well_formed.problem.loop.statements_few in
    omega arith

pub find_least-requires-clause-lives : goal.find_least-requires-clause-lives
find_least-requires-clause-lives c =
    subst (All IsLifeSpan) (sym (c.as_slice-listed.ensures.value ∙ c.in_ok-lives.ensures.exact)) (are-spans c.args.schedule.now c.ii-ii.ensures.well_formed)

pub find_least-requires-clause-few_lives : goal.find_least-requires-clause-few_lives
find_least-requires-clause-few_lives c =
    let few = lives-few c.args.schedule.now in
    let same = ap length (c.as_slice-listed.ensures.value ∙ c.in_ok-lives.ensures.exact) in
    let most = c.ii-ii.ensures.well_formed.problem.loop.statements_few in
    omega arith
