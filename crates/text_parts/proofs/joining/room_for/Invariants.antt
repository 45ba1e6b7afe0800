use Rattle.std.proofs.Common.{◌≡◌, ◌+◌, ◌-◌, length, min, take, ◌^◌}
use Rattle.std.specs.List.{sum_by}
use Rattle.text_parts.proofs.joining.room_for.Given as goal

abbrev pub invariant-loop-part : goal.invariant-loop-part
invariant-loop-part g l = l.room ≡ min (128 + sum_by (λ part. length (g.P.HasText.bytes part)) (take l.part-index l.parts)) (2 ^ 64 - 1)
