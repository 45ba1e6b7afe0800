use Rattle.std.proofs.Common.{take}
use Rattle.std.specs.List.{AllZip}
use Rattle.explain_printouts.specs.ExplainDocuments.{IsObjectOf}
use Rattle.explain_printouts.proofs.explaining.objects_of.Given as goal

abbrev pub invariant-loop-index : goal.invariant-loop-index
invariant-loop-index l = AllZip (IsObjectOf l.machine) (take l.index l.prepared) l.objects.items
