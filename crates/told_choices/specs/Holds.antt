-- What holds the interval of a loop.
use Rattle.std.specs.Prelude.{◌≡◌, ℕ, ◌-◌, ◌<◌, nat_lt, codes, List, length, Bool, true, false, if◌then◌else◌, Option, Some, None, slice_get}
use Rattle.loop_schedules.specs.Problems.{ProblemData, mii_of}
use Rattle.candidates.specs.Outcomes.{FailsBy}
use Rattle.loop_listings.specs.Texts.{cause_word}
use Rattle.told_choices.specs.declared.hold.Hold.{Hold}
use Rattle.told_choices.specs.declared.hold.Hold.TheVariants.{Units, Recurrences, Both, Cycle, Failure}
use Rattle.told_choices.specs.declared.why.Why.{Why}
use Rattle.told_choices.specs.Whys.{why_cause}

abbrev pub hold_word : Hold → List ℕ
hold_word Units = codes "units"
hold_word Recurrences = codes "recurrences"
hold_word Both = codes "both"
hold_word Cycle = codes "one cycle"
hold_word (Failure cause) = cause_word cause

-- an interval that is the lower bound is held by the greater of the two bounds. Where these are equal it is held by both, or where no
-- circuit needs the bound (free) by being one cycle. An interval above it is held by the cause for which one cycle less gives no kernel
abbrev pub IsHold : ProblemData → Bool → ℕ → Hold → Type 0
IsHold problem free ii Units = (ii ≡ mii_of problem) × (problem.recurrences < problem.resources)
IsHold problem free ii Recurrences = (ii ≡ mii_of problem) × (problem.resources < problem.recurrences)
IsHold problem free ii Both = (ii ≡ mii_of problem) × (problem.resources ≡ problem.recurrences) × (free ≡ false)
IsHold problem free ii Cycle = (ii ≡ mii_of problem) × (problem.resources ≡ problem.recurrences) × (free ≡ true)
IsHold problem free ii (Failure cause) = (mii_of problem < ii) × FailsBy problem (ii - 1) cause

-- what holds the least interval that is tried
abbrev pub bound_hold : ProblemData → Bool → Hold
bound_hold problem free =
    if nat_lt problem.resources problem.recurrences then Recurrences
    else (if nat_lt problem.recurrences problem.resources then Units else (if free then Cycle else Both))

-- the last of the intervals that were tried before gives no kernel for a reason, or none was tried
abbrev pub hold_after : ProblemData → Bool → Option Why → Hold
hold_after problem free None = bound_hold problem free
hold_after problem free (Some why) = Failure (why_cause why)

-- what holds an interval, by the reasons of those before it, from the least one on
abbrev pub hold_by : ProblemData → Bool → List Why → Hold
hold_by problem free reasons = hold_after problem free (slice_get reasons (length reasons - 1))
