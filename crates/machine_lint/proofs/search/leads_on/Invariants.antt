use Rattle.std.proofs.Common.{◌≡◌, drop}
use Rattle.machine_lint.specs.Words.{leads_on}
use Rattle.machine_lint.proofs.search.leads_on.Given as goal

-- the bytes so far are blanks
abbrev pub invariant-loop-byte : goal.invariant-loop-byte
invariant-loop-byte l = leads_on (drop l.byte-index l.text) ≡ leads_on l.text
