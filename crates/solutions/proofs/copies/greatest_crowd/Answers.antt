use Rattle.std.proofs.Common.{length, ◌∙◌, arith}
use Rattle.unit_bound.proofs.Most.{greater}
use Rattle.registers.specs.Crowds.{crowd_in}
use Rattle.solutions.proofs.Copying.{greatest-more}
use Rattle.solutions.proofs.copies.greatest_crowd.Goals as goal

pub loop-row-preserved : goal.loop-row-preserved
loop-row-preserved c =
    let lives = c.args.lives.now in
    let m = c.max-greatest.ensures ∙ greater c.loop-row.greatest c.crowd_in.result in
    let i = c.loop-row.invariant in
    let e = c.crowd_in.ensures in
    let g = greatest-more (λ row. crowd_in c.args.ii row lives (length lives)) c.loop-row.row in
    omega arith
