-- The intervals that were tried, as JSON.
use Rattle.std.specs.Prelude.{ℕ, ◌+◌, codes, List, [], ◌∷◌, ◌++◌}
use Rattle.serde_json.specs.Data.{Data, string, array, object, member, no_members}
use Rattle.serde_json.specs.View.{items_of}
use Rattle.loop_schedules.specs.Problems.{ProblemData, mii_of}
use Rattle.modulo.specs.declared.outcome.attempts.Culprit.TheVariants.{Blocked, Unplaced, Late}
use Rattle.told_choices.specs.declared.chosen.Chosen.{Chosen}
use Rattle.told_choices.specs.declared.chosen.Chosen.TheVariants.{Met, Failed}
use Rattle.told_choices.specs.declared.told.Told.{Told}
use Rattle.told_choices.specs.declared.why.Why.{Why}
use Rattle.told_choices.specs.declared.why.Why.TheVariants.{Attempt, Register, Need}
use Rattle.explain_json.specs.Parts.{count_value, counts_value, need_value}

-- an interval that gives no kernel for this reason: the operation that has no alternative, those that are not placed, the one that is
-- too late, or the one whose value has no register, with when that lives and, where it is told, how many registers all values need
abbrev pub failure_object : ℕ → Why → Data
failure_object ii (Attempt (Blocked op)) =
    object (member (codes "interval") (count_value ii)
    (member (codes "operations") (counts_value (op ∷ []))
    (member (codes "outcome") (string (codes "table")) no_members)))
failure_object ii (Attempt (Unplaced ops)) =
    object (member (codes "interval") (count_value ii)
    (member (codes "operations") (counts_value ops.items)
    (member (codes "outcome") (string (codes "budget")) no_members)))
failure_object ii (Attempt (Late op time)) =
    object (member (codes "interval") (count_value ii)
    (member (codes "operations") (counts_value (op ∷ []))
    (member (codes "outcome") (string (codes "stages"))
    (member (codes "time") (count_value time) no_members))))
failure_object ii (Register life) =
    object (member (codes "first") (count_value life.first)
    (member (codes "interval") (count_value ii)
    (member (codes "last") (count_value life.last)
    (member (codes "operations") (counts_value (life.operation ∷ []))
    (member (codes "outcome") (string (codes "registers")) no_members)))))
failure_object ii (Need life need) =
    object (member (codes "first") (count_value life.first)
    (member (codes "interval") (count_value ii)
    (member (codes "last") (count_value life.last)
    (member (codes "need") (need_value need)
    (member (codes "operations") (counts_value (life.operation ∷ []))
    (member (codes "outcome") (string (codes "registers")) no_members))))))

-- an interval that gives a kernel of so many stages
abbrev pub kernel_try : ℕ → ℕ → Data
kernel_try ii stages =
    object (member (codes "interval") (count_value ii)
    (member (codes "outcome") (string (codes "kernel"))
    (member (codes "stages") (count_value stages) no_members)))

-- intervals that give none, from this one on, one after another
abbrev pub failures_from : ℕ → List Why → List Data
failures_from ii [] = []
failures_from ii (reason ∷ reasons) = failure_object ii reason ∷ failures_from (ii + 1) reasons

-- the interval that is chosen, where there is one
abbrev pub chosen_try : Chosen → List Data
chosen_try (Met ii met figures) = kernel_try ii met.kernel.stages ∷ []
chosen_try (Failed cause) = []

-- all intervals that were tried, from the least one on
abbrev pub tried_value : ProblemData → Told → Data
tried_value problem told = array (items_of (failures_from (mii_of problem) told.reasons.items ++ chosen_try told.chosen))
