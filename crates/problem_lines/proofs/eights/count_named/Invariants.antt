use Rattle.std.proofs.Common.{◌≡◌, ◌<◌, ◌≤◌, ◌-◌, ℕ, true, get_or, length}
use Rattle.problem_lines.specs.Names.{is_printable}
use Rattle.problem_lines.proofs.eights.count_named.Given as goal

-- the bytes so far may stand in a name
abbrev pub invariant-loop-at : goal.invariant-loop-at
invariant-loop-at l = record {
  within : l.at ≤ length l.text;
  named : (k : ℕ) → k < l.at → is_printable (get_or l.text k 0) ≡ true;
}

abbrev pub decreases-loop-at : goal.decreases-loop-at
decreases-loop-at l = length l.text - l.at

abbrev pub invariant-loop-at-2 : goal.invariant-loop-at-2
invariant-loop-at-2 l = record {
  within : l.at ≤ length l.text;
  named : (k : ℕ) → k < l.at → is_printable (get_or l.text k 0) ≡ true;
}

abbrev pub decreases-loop-at-2 : goal.decreases-loop-at-2
decreases-loop-at-2 l = length l.text - l.at
