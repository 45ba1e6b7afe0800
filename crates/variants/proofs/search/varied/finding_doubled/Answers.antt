use Rattle.std.proofs.Common.{◌≡◌, sym, subst}
use Rattle.std.specs.Prelude.{None}
use Rattle.machine_data.specs.Machines.{MachineData}
use Rattle.graph.specs.Units.{first_without_table}
use Rattle.machine_variants.specs.declared.variant.Variant.TheVariants.{Doubled}
use Rattle.variants.specs.declared.found.finding.Finding.{Finding}
use Rattle.variants.specs.Intervals.{IsFinding, IsIntervalOn}
use Rattle.variants.proofs.Findings.{finding-found}
use Rattle.variants.proofs.Others.{tables-varied}
use Rattle.variants.proofs.search.varied.finding_doubled.Goals as goal

pub interval_on-requires : goal.interval_on-requires
interval_on-requires c =
    let both = rw c.in-Some.is at c.in_ok-other.ensures in
    subst (λ (o : MachineData). first_without_table o c.args.prepared.now.loop ≡ None) (sym both.1)
    (tables-varied (Doubled c.args.unit) c.args.machine.now c.args.prepared.now.loop c.requires.on.tables)

pub returns-in_ok-interval_on-in-Some : goal.returns-in_ok-interval_on-in-Some
returns-in_ok-interval_on-in-Some c =
    let m = c.args.machine.now in
    let p = c.args.prepared.now in
    let v = Doubled c.args.unit in
    let interval = c.in_ok-interval_on-in-Some.field-0 in
    let both = rw c.in-Some.is at c.in_ok-other.ensures in
    subst (λ (f : Finding). IsFinding m p v f) (sym c.found.ensures)
    (finding-found m p v interval both.0 (subst (λ (o : MachineData). IsIntervalOn o p.loop p.ratio p.ceiling interval) both.1 c.in_ok-interval_on-in-Some.ensures))
