use Rattle.std.proofs.Common.{take}
use Rattle.std.specs.List.{AllZip}
use Rattle.variants.specs.Findings.{IsFoundOn}
use Rattle.variants.specs.inner.Tries.{AreTries}
use Rattle.variants.proofs.found.each.findings_on.Given as goal

abbrev pub invariant-loop-variant : goal.invariant-loop-variant
invariant-loop-variant l = record {
  are : AreTries l.prepared l.tries.items;
  each : AllZip (IsFoundOn l.machine l.prepared) (take l.variant-index l.variants) l.findings.items;
}
