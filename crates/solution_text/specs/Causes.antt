-- The words of causes.
use Rattle.std.specs.Prelude.{ℕ, codes, List}
use Rattle.solutions.specs.declared.solving.outcome.Cause.{Cause}
use Rattle.solutions.specs.declared.solving.outcome.Cause.TheVariants.{Table, Budget, Stages, Registers}

abbrev pub cause_word : Cause → List ℕ
cause_word Table = codes "table"
cause_word Budget = codes "budget"
cause_word Stages = codes "stages"
cause_word (Registers file value) = codes "registers"
