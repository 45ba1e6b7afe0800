use Rattle.std.proofs.Common.{◌≡◌, ◌-◌, ◌^◌, ◌<◌, min, length}
use Rattle.std.specs.Str.{all_ascii_digits}
use Rattle.std.specs.Str.Parse.{digits_value_after}
use Rattle.loop_lines.proofs.number.number_of.Given as goal

-- the rest decides whether all are digits, and from the value so far it leads to the whole value
abbrev pub invariant-loop-rest : goal.invariant-loop-rest
invariant-loop-rest l =
    (all_ascii_digits l.rest ≡ all_ascii_digits l.fn.word)
    × (min (digits_value_after 10 l.value l.rest) (2 ^ 64 - 1) ≡ min (digits_value_after 10 0 l.fn.word) (2 ^ 64 - 1))
    × (l.value < 2 ^ 64)

abbrev pub decreases-loop-rest : goal.decreases-loop-rest
decreases-loop-rest l = length l.rest
