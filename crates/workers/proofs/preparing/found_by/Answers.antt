use Rattle.std.proofs.Common.{◌∙◌, arith, of_calls, rules}
use Rattle.shared_jobs.proofs.Zipped.{all_right}
use Rattle.workers.specs.inner.Found.{IsFound}
use Rattle.workers.proofs.preparing.found_by.Goals as goal

pub returns : goal.returns
returns g c =
    let made = c.in_ok-found.ensures in
    all_right (IsFound c.args.settings.now.ratio c.args.settings.now.ceiling c.args.machine.now) c.args.loops.now c.in_ok-found.found.items (made.each ∙ c.requires.each)
    (λ k l part h. let told = (made.made k part (omega (arith, c.requires.each, h))).met in search (rules, of_calls, told))
