use Rattle.std.proofs.Common.{◌≡◌, ◌++◌, take, string_bytes}
use Rattle.std.specs.List.{flat_map}
use Rattle.kernel.specs.Text.{out_text}
use Rattle.kernel.proofs.text.write_outs.Given as goal

abbrev pub invariant-loop-out : goal.invariant-loop-out
invariant-loop-out l = string_bytes l.text ≡ string_bytes l.initial.text ++ flat_map out_text (take l.out-index l.outs)
