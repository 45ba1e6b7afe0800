use Rattle.std.proofs.Common.{◌≡◌, ℕ, ◌+◌, ◌≤◌, drop, false, get_or, length}
use Rattle.machine_lint.specs.Words.{leads_on}
use Rattle.machine_lint.proofs.sought.stands.leads.Given as goal

abbrev pub invariant-loop-at : goal.invariant-loop-at
invariant-loop-at l = record {
  are : (k : ℕ) → l.at ≤ k → k ≤ length l.text → get_or l.leads.items k false ≡ leads_on (drop k l.text);
  all : length l.leads.items ≡ length l.text + 1;
}
