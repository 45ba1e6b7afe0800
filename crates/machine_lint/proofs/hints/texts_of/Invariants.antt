use Rattle.std.proofs.Common.{◌≡◌, map, take}
use Rattle.toml.specs.View.{view}
use Rattle.machine.specs.MachineText.{text_of}
use Rattle.machine_lint.proofs.hints.texts_of.Given as goal

abbrev pub invariant-loop-value : goal.invariant-loop-value
invariant-loop-value l = l.texts.items ≡ map text_of (map view (take l.value-index l.values))
