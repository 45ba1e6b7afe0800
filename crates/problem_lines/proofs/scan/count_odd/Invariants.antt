use Rattle.std.proofs.Common.{◌≡◌, ◌<◌, ◌≤◌, ◌-◌, ℕ, false, get_or, take, length}
use Rattle.std.specs.List.{list_all}
use Rattle.loop_lines.specs.Words.{stops_word}
use Rattle.problem_lines.specs.Names.{is_printable}
use Rattle.problem_lines.proofs.scan.count_odd.Given as goal

-- none of the bytes so far ends a word
abbrev pub invariant-loop-at : goal.invariant-loop-at
invariant-loop-at l = record {
  within : l.at ≤ length l.text;
  goes_on : (k : ℕ) → k < l.at → stops_word (get_or l.text k 0) ≡ false;
  told : l.printable ≡ list_all is_printable (take l.at l.text);
}

abbrev pub decreases-loop-at : goal.decreases-loop-at
decreases-loop-at l = length l.text - l.at
