use Rattle.std.proofs.Common.{◌≡◌, refl, sym, subst}
use Rattle.std.specs.Prelude.{None}
use Rattle.machine_data.specs.Machines.{MachineData}
use Rattle.graph.specs.Units.{first_without_table}
use Rattle.machine_variants.specs.declared.variant.Variant.TheVariants.{Shortened}
use Rattle.variants.specs.declared.found.finding.Finding.{Finding}
use Rattle.variants.specs.Intervals.{IsFinding, IsIntervalOn}
use Rattle.variants.proofs.Findings.{finding-found}
use Rattle.variants.proofs.Others.{tables-varied}
use Rattle.variants.proofs.search.varied.finding_shortened.Goals as goal

pub interval_on-requires : goal.interval_on-requires
interval_on-requires c =
    subst (λ (o : MachineData). first_without_table o c.args.prepared.now.loop ≡ None) (sym c.in_ok-other.ensures)
    (tables-varied (Shortened c.args.opcode) c.args.machine.now c.args.prepared.now.loop c.requires.on.tables)

pub returns : goal.returns
returns c =
    let m = c.args.machine.now in
    let p = c.args.prepared.now in
    let v = Shortened c.args.opcode in
    let interval = c.in_ok-interval_on.field-0 in
    subst (λ (f : Finding). IsFinding m p v f) (sym c.found.ensures)
    (finding-found m p v interval refl (subst (λ (o : MachineData). IsIntervalOn o p.loop p.ratio p.ceiling interval) c.in_ok-other.ensures c.in_ok-interval_on.ensures))
