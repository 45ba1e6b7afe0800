use Rattle.std.proofs.Common.{◌∙◌, arith, of_calls, rules}
use Rattle.variants.specs.Findings.{AreFindings}
use Rattle.shared_jobs.proofs.Zipped.{all_right}
use Rattle.side_by_side.proofs.commands.varying.found_by.Goals as goal

pub returns : goal.returns
returns g c =
    let made = c.in_ok-loops.ensures in
    all_right (AreFindings c.args.machine.now) c.args.prepared.now c.in_ok-loops.loops.items (made.each ∙ c.requires.each)
    (λ k p found h. let told = (made.made k found (omega (arith, c.requires.each, h))).met in search (rules, of_calls, told))
