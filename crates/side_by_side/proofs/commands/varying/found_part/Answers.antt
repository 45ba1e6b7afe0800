use Rattle.std.proofs.Common.{◌∙◌, sym, subst}
use Rattle.std.proofs.lemmas.List.{get_or_default}
use Rattle.std.proofs.lemmas.List.Elements.{All-get_or}
use Rattle.loop_schedules.specs.Problems.{ProblemData}
use Rattle.variants.specs.Findings.{AreFindings, IsOn}
use Rattle.side_by_side.proofs.commands.varying.found_part.Goals as goal

pub findings_of-requires : goal.findings_of-requires
findings_of-requires c =
    let p = c.index-prepared-number.result in
    subst (λ (q : ProblemData). IsOn c.args.machine.now q) (sym c.index-prepared-number.is) (All-get_or (IsOn c.args.machine.now) c.args.prepared.now c.args.number p c.requires.within c.requires.on)

pub returns : goal.returns
returns c d =
    let p = c.index-prepared-number.result in
    subst (λ (q : ProblemData). AreFindings c.args.machine.now q c.in_ok-found.found) (c.index-prepared-number.is ∙ get_or_default c.args.prepared.now c.args.number p d c.requires.within)
    c.in_ok-found.ensures
