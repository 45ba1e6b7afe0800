use Rattle.std.proofs.Common.{◌≡◌, ◌++◌, take, string_bytes}
use Rattle.std.specs.List.{flat_map}
use Rattle.kernel.specs.declared.kernels.operation.Source.{Source}
use Rattle.kernel.specs.Text.{spaced, source_text}
use Rattle.kernel.proofs.text.write_plain.Given as goal

abbrev pub invariant-loop-source : goal.invariant-loop-source
invariant-loop-source l = string_bytes l.text ≡ string_bytes l.initial.text ++ flat_map (λ (source : Source). spaced (source_text l.parts source)) (take l.source-index l.sources)
