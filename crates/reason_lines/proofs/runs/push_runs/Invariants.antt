use Rattle.std.proofs.Common.{◌≡◌, ◌≤◌, ◌++◌, ℕ, Vec, map}
use Rattle.std.specs.Global.{Global}
use Rattle.std.specs.List.{flat_map, range_with_len}
use Rattle.reason_lines.specs.Runs.{run_at, run_start}
use Rattle.reason_lines.proofs.runs.push_runs.Given as goal

abbrev pub invariant-loop-number : goal.invariant-loop-number
invariant-loop-number l = record {
  start : l.start ≡ run_start (map (λ (why : Vec ℕ Global). why.items) l.whys) l.number;
  within : l.start ≤ l.number;
  text : l.text.items ≡ l.initial.text.items ++ flat_map (run_at l.least (map (λ (why : Vec ℕ Global). why.items) l.whys)) (range_with_len 0 l.number);
}
