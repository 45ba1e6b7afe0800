use Rattle.std.proofs.Common.{take}
use Rattle.std.specs.List.{AllZip}
use Rattle.variants.specs.Findings.{AreFindings}
use Rattle.variants.proofs.found.files.find_each.Given as goal

abbrev pub invariant-loop-index : goal.invariant-loop-index
invariant-loop-index l = AllZip (AreFindings l.machine) (take l.index l.prepared) l.loops.items
