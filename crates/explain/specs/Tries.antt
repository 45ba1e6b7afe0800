-- The lines of the intervals that are tried.
use Rattle.std.specs.Prelude.{◌≡◌, ℕ, ◌<◌, ◌≤◌, Bool, true, false, codes, List, [], ◌++◌, map}
use Rattle.std.specs.List.{range_with_len, AllZip}
use Rattle.loop_data.specs.Loops.{LoopData}
use Rattle.edges.specs.Schedules.{IsLawfulSchedule}
use Rattle.loop_schedules.specs.Problems.{ProblemData, IsProblem, mii_of}
use Rattle.unit_sets.specs.declared.fullest.UnitSet.{UnitSet}
use Rattle.unit_sets.specs.Fullest.{IsFullest}
use Rattle.loop_listings.specs.declared.choices.Choice.{Choice}
use Rattle.loop_listings.specs.declared.choices.Choice.TheVariants.{Met, Failed}
use Rattle.candidates.specs.Choices.{IsChoice}
use Rattle.loop_listings.specs.Texts.{cause_word}
use Rattle.writing.specs.Words.{told}
use Rattle.told_choices.specs.declared.hold.Hold.{Hold}
use Rattle.told_choices.specs.declared.why.Why.{Why}
use Rattle.told_choices.specs.Holds.{IsHold, hold_word}
use Rattle.told_choices.specs.Least.{is_least_possible}
use Rattle.told_choices.specs.Told.{failures_of}
use Rattle.told_choices.specs.Whys.{FailsAs, TellNeeds, why_cause}
use Rattle.reason_lines.specs.Least.{least_line}
use Rattle.reason_lines.specs.Runs.{runs_text}
use Rattle.explain.specs.Reasons.{reason_text}

-- ` CAUSE:`, and its culprits
abbrev pub why_text : LoopData → Why → List ℕ
why_text loop why = ((codes " " ++ cause_word (why_cause why)) ++ codes ":") ++ reason_text loop why

-- `try I kernel stages S`, with a line feed
abbrev pub kernel_line : ℕ → ℕ → List ℕ
kernel_line ii stages = (told (codes "try ") ii ++ told (codes " kernel stages ") stages) ++ codes "\n"

-- `held by WORD`, with a line feed
abbrev pub hold_line : Hold → List ℕ
hold_line hold = (codes "held by " ++ hold_word hold) ++ codes "\n"

-- where an interval is what the fullest set of units or the recurrences need, no lawful schedule has a shorter one
abbrev pub LeastIsLeast : Type 0
LeastIsLeast = (problem : ProblemData) (set : UnitSet) (ii shorter : ℕ) (times choices : List ℕ) → IsProblem problem → IsFullest problem.operations set
    → is_least_possible problem set.need ii ≡ true → 0 < shorter → IsLawfulSchedule shorter problem.operations problem.graph.edges times choices → ii ≤ shorter

-- the chosen interval, what holds it, and whether no shorter one is possible, where there is one. The fullest set of units has a
-- need; free tells that no circuit needs the recurrence-constrained bound
abbrev pub IsEnd : ProblemData → ℕ → Bool → Choice → List ℕ → Type 0
IsEnd problem need free (Met ii kernel) text =
    (hold : Hold) × IsHold problem free ii hold × (text ≡ (kernel_line ii kernel.stages ++ hold_line hold) ++ least_line (is_least_possible problem need ii))
IsEnd problem need free (Failed cause) text = text ≡ []

-- the choice of a loop, with the cause and the culprits of each interval, from the least one on, that gives no kernel, and the needs of the
-- first and the last one that fail for registers: a line for neighbouring ones of which the same is told
pub record AreTries (problem : ProblemData) (need : ℕ) (free : Bool) (choice : Choice) (text : List ℕ) : Type 0 where
  pub is_choice : IsChoice problem choice
  pub reasons : List Why
  pub are_reasons : AllZip (FailsAs problem) (range_with_len (mii_of problem) (failures_of problem choice)) reasons
  pub tell_needs : TellNeeds false reasons
  pub end : List ℕ
  pub is_end : IsEnd problem need free choice end
  pub is_text : text ≡ runs_text (mii_of problem) (map (why_text problem.loop) reasons) ++ end
