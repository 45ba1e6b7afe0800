use Rattle.std.proofs.Common.{◌∙◌, arith, of_calls, rules}
use Rattle.shared_jobs.proofs.Zipped.{all_right}
use Rattle.workers.specs.inner.Pieces.{IsRead}
use Rattle.workers.proofs.reading.apart.read_pieces.Goals as goal

pub returns : goal.returns
returns g c =
    let made = c.in_ok-read.ensures in
    all_right IsRead c.args.pieces.now c.in_ok-read.read.items (made.each ∙ c.requires.each)
    (λ k piece part h. let told = (made.made k part (omega (arith, c.requires.each, h))).met in search (rules, of_calls, told))
