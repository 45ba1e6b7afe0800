use Rattle.std.proofs.Common.{◌∙◌, subst}
use Rattle.std.proofs.lemmas.List.{get_or_default}
use Rattle.loop_schedules.specs.Problems.{ProblemData}
use Rattle.explain_printouts.specs.ExplainDocuments.{IsObjectOf}
use Rattle.side_by_side.proofs.commands.objects.object_part.Goals as goal

pub returns : goal.returns
returns c d =
    let p = c.index-prepared-number.result in
    subst (λ (q : ProblemData). IsObjectOf c.args.machine.now q c.in_ok-object.object) (c.index-prepared-number.is ∙ get_or_default c.args.prepared.now c.args.number p d c.requires)
    c.in_ok-object.ensures
