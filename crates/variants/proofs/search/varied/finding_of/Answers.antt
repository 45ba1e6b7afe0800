use Rattle.std.proofs.Common.{sym, subst}
use Rattle.std.specs.Prelude.{IfOk}
use Rattle.machine_variants.specs.declared.variant.Variant.{Variant}
use Rattle.variants.specs.Intervals.{IsFinding}
use Rattle.variants.proofs.search.varied.finding_of.Goals as goal

pub returns-in-Doubled-clause-exact : goal.returns-in-Doubled-clause-exact
returns-in-Doubled-clause-exact c =
    subst (λ (v : Variant). IfOk c.finding_doubled.result (IsFinding c.args.machine.now c.args.prepared.now v)) (sym c.in-Doubled.is) c.finding_doubled.ensures

pub returns-in-Shortened-clause-exact : goal.returns-in-Shortened-clause-exact
returns-in-Shortened-clause-exact c =
    subst (λ (v : Variant). IfOk c.finding_shortened.result (IsFinding c.args.machine.now c.args.prepared.now v)) (sym c.in-Shortened.is) c.finding_shortened.ensures
