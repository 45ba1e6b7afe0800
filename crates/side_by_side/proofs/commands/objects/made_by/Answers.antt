use Rattle.std.proofs.Common.{◌∙◌, arith, of_calls, rules}
use Rattle.explain_printouts.specs.ExplainDocuments.{IsObjectOf}
use Rattle.shared_jobs.proofs.Zipped.{all_right}
use Rattle.side_by_side.proofs.commands.objects.made_by.Goals as goal

pub returns : goal.returns
returns g c =
    let made = c.in_ok-objects.ensures in
    all_right (IsObjectOf c.args.machine.now) c.args.prepared.now c.in_ok-objects.objects.items (made.each ∙ c.requires.each)
    (λ k p object h. let told = (made.made k object (omega (arith, c.requires.each, h))).met in search (rules, of_calls, told))
