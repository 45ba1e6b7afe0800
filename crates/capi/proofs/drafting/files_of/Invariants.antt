use Rattle.std.proofs.Common.{◌≡◌, map, take}
use Rattle.capi.specs.Given.{file_of}
use Rattle.capi.proofs.drafting.files_of.Given as goal

abbrev pub invariant-loop-registers : goal.invariant-loop-registers
invariant-loop-registers l = l.made.items ≡ map file_of (take l.registers-index l.files)
