use Rattle.std.proofs.Common.{◌∙◌, List, ℕ, arith, of_calls, rules}
use Rattle.std.specs.Borrow.{Bor}
use Rattle.shared_jobs.proofs.Zipped.{all_right}
use Rattle.workers.specs.inner.Made.{IsMadeOf}
use Rattle.workers.proofs.pieces.make_all.Goals as goal

pub returns : goal.returns
returns g c =
    let made = c.in_ok-made.ensures in
    all_right (λ (piece : Bor (List ℕ)). IsMadeOf g.F.Fn c.args.tell.now c.args.machine.now c.args.settings.now.ratio c.args.settings.now.ceiling piece.now) c.args.pieces.now c.in_ok-made.made.items (made.each ∙ c.requires.each)
    (λ k piece part h. let told = (made.made k part (omega (arith, c.requires.each, h))).met in search (rules, of_calls, told))
