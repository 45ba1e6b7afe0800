use Rattle.std.proofs.Common.{◌≡◌, ◌<◌, ◌≤◌, ℕ, false, get_or, length, ◌-◌}
use Rattle.loop_lines.proofs.NameBytes.{stands_in_none}
use Rattle.loop_lines.proofs.name.count_name.Given as goal

-- all bytes before this place may stand in a name
abbrev pub invariant-loop-at : goal.invariant-loop-at
invariant-loop-at l = record {
  within : l.at ≤ length l.text;
  none : (k : ℕ) → k < l.at → stands_in_none (get_or l.text k 0) ≡ false;
}

abbrev pub decreases-loop-at : goal.decreases-loop-at
decreases-loop-at l = length l.text - l.at

abbrev pub invariant-loop-at-2 : goal.invariant-loop-at-2
invariant-loop-at-2 l = record {
  within : l.at ≤ length l.text;
  none : (k : ℕ) → k < l.at → stands_in_none (get_or l.text k 0) ≡ false;
}

abbrev pub decreases-loop-at-2 : goal.decreases-loop-at-2
decreases-loop-at-2 l = length l.text - l.at

abbrev pub invariant-loop-at-3 : goal.invariant-loop-at-3
invariant-loop-at-3 l = record {
  within : l.at ≤ length l.text;
  none : (k : ℕ) → k < l.at → stands_in_none (get_or l.text k 0) ≡ false;
}

abbrev pub decreases-loop-at-3 : goal.decreases-loop-at-3
decreases-loop-at-3 l = length l.text - l.at
