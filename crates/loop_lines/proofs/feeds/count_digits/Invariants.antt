use Rattle.std.proofs.Common.{◌≡◌, ◌<◌, ◌≤◌, ◌-◌, ℕ, true, get_or, length}
use Rattle.std.specs.Char.{is_ascii_digit}
use Rattle.loop_lines.proofs.feeds.count_digits.Given as goal

-- all bytes so far are digits
abbrev pub invariant-loop-at : goal.invariant-loop-at
invariant-loop-at l = record {
  within : l.at ≤ length l.text;
  few : length l.text < 8;
  digits : (k : ℕ) → k < l.at → is_ascii_digit (get_or l.text k 0) ≡ true;
}

abbrev pub decreases-loop-at : goal.decreases-loop-at
decreases-loop-at l = length l.text - l.at
