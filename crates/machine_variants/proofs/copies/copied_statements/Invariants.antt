use Rattle.std.proofs.Common.{◌≡◌, take}
use Rattle.machine_variants.proofs.copies.copied_statements.Given as goal

abbrev pub invariant-loop-statement : goal.invariant-loop-statement
invariant-loop-statement l = l.copies.items ≡ take l.statement-index l.statements
