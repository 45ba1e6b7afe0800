use Rattle.std.proofs.Common.{◌≡◌, ◌++◌, take, string_bytes}
use Rattle.std.specs.List.{flat_map}
use Rattle.kernel.specs.Text.{preload_text}
use Rattle.kernel.proofs.text.write_preloads.Given as goal

abbrev pub invariant-loop-preload : goal.invariant-loop-preload
invariant-loop-preload l = string_bytes l.text ≡ string_bytes l.initial.text ++ flat_map preload_text (take l.preload-index l.preloads)
