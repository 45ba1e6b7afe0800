use Rattle.std.proofs.Common.{sym, subst, refl}
use Rattle.machine_variants.specs.declared.variant.Variant.TheVariants.{Registers}
use Rattle.variants.specs.declared.found.finding.Finding.{Finding}
use Rattle.variants.specs.Intervals.{IsFinding}
use Rattle.variants.proofs.Findings.{finding-found}
use Rattle.variants.proofs.Giving.{varied-interval}
use Rattle.variants.proofs.search.varied.finding_with.Goals as goal

pub returns-clause-exact : goal.returns-clause-exact
returns-clause-exact c =
    let m = c.args.machine.now in
    let p = c.args.prepared.now in
    let r = c.args.registers in
    let interval = c.in_ok-interval_with.field-0 in
    subst (λ (f : Finding). IsFinding m p (Registers r) f) (sym c.found.ensures)
    (finding-found m p (Registers r) interval refl (varied-interval m r p interval c.requires.some c.requires.few c.requires.on.is_problem c.in_ok-interval_with.ensures.exact))
