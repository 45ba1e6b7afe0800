-- Lines that are refused.
use Rattle.std.proofs.Common.{◌≡◌, Option, Some}
use Rattle.std.specs.Prelude.{Err}
use Rattle.problem_tables.specs.Seen.{Refuses}
use Rattle.problem_tables.specs.declared.fault.Refusal.{Refusal}
use Rattle.problem_tables.specs.declared.fault.Refusal.TheVariants.{Fault, Memory}
use Rattle.problem_tables.specs.declared.fault.Told.{Told}

-- the same refusal of what has the same fault
pub refuses : (r : Refusal) (a b : Option Told) → ((told : Told) → a ≡ Some told → b ≡ Some told) → Refuses {A = Unit {0}} (Err r) a → Refuses {A = Unit {0}} (Err r) b
refuses (Fault told) a b h given = h told given
refuses Memory a b h given = tt
