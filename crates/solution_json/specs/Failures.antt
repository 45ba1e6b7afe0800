-- Why a problem has no solution, as JSON.
use Rattle.std.specs.Prelude.{ℕ, codes, [], ◌∷◌, Option, Some, None}
use Rattle.serde_json.specs.Data.{Data, null, string, object, member, no_members}
use Rattle.modulo.specs.declared.outcome.attempts.Culprit.{Culprit}
use Rattle.modulo.specs.declared.outcome.attempts.Culprit.TheVariants.{Blocked, Unplaced, Late}
use Rattle.problems.specs.declared.draft.Draft.{Draft}
use Rattle.solutions.specs.declared.solving.outcome.Cause.{Cause}
use Rattle.solutions.specs.declared.solving.outcome.Cause.TheVariants.{Table, Budget, Stages, Registers}
use Rattle.solution_text.specs.Names.{file_name, value_name}
use Rattle.solution_json.specs.Parts.{count_value, op_names}

-- the operation that has no alternative, all that are not placed, or the one that is too late, and when it is issued
abbrev pub culprit_object : Draft → Culprit → Data
culprit_object draft (Blocked op) = object (member (codes "operations") (op_names draft (op ∷ [])) no_members)
culprit_object draft (Unplaced ops) = object (member (codes "operations") (op_names draft ops.items) no_members)
culprit_object draft (Late op time) =
    object (member (codes "operations") (op_names draft (op ∷ [])) (member (codes "time") (count_value time) no_members))

-- the same where it is known, and `null` where it is not
abbrev pub found_value : Draft → Option Culprit → Data
found_value draft None = null
found_value draft (Some culprit) = culprit_object draft culprit

-- the file that has too few registers, and its first value that has none
abbrev pub lack_object : Draft → ℕ → ℕ → Data
lack_object draft file value =
    object (member (codes "file") (string (file_name draft file)) (member (codes "value") (string (value_name draft value)) no_members))

-- the culprits of a cause: of a lack of registers the file and the value that has none, of the others the operations
abbrev pub culprit_value : Draft → Cause → Option Culprit → Data
culprit_value draft Table found = found_value draft found
culprit_value draft Budget found = found_value draft found
culprit_value draft Stages found = found_value draft found
culprit_value draft (Registers file value) found = lack_object draft file value
