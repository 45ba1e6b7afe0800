-- What is told of a loop: what is chosen for it, with the evidence, and why the intervals before give no kernel.
use Rattle.std.specs.Prelude.{ℕ, ◌+◌, ◌-◌, false}
use Rattle.std.specs.List.{AllZip, range_with_len}
use Rattle.loop_schedules.specs.Problems.{ProblemData, mii_of}
use Rattle.figures.specs.declared.figures.Figures.{Figures}
use Rattle.figures.specs.Figures.{AreFigures}
use Rattle.loop_listings.specs.declared.choices.Choice.{Choice}
use Rattle.loop_listings.specs.declared.choices.Choice.TheVariants as choice
use Rattle.candidates.specs.Choices.{IsChoice, IsUnmet}
use Rattle.told_intervals.specs.declared.evidence.Met as evidence
use Rattle.told_intervals.specs.Reasons.{IsMet}
use Rattle.told_choices.specs.declared.chosen.Chosen.{Chosen}
use Rattle.told_choices.specs.declared.chosen.Chosen.TheVariants.{Met, Failed}
use Rattle.told_choices.specs.declared.told.Told.{Told}
use Rattle.told_choices.specs.Whys.{FailsAs, TellNeeds}

-- what is chosen, without the evidence
abbrev pub choice_of : Chosen → Choice
choice_of (Met ii met figures) = choice.Met ii met.kernel
choice_of (Failed cause) = choice.Failed cause

-- the schedule and the registers are those that the interval gives, and the figures are the schedule's
pub record IsMetWith (problem : ProblemData) (ii : ℕ) (met : evidence.Met) (figures : Figures) : Type 0 where
  pub is_met : IsMet problem ii met
  pub are_figures : AreFigures met.schedule figures

-- that, where there is an interval
abbrev pub HasEvidence : ProblemData → Chosen → Type 0
HasEvidence problem (Met ii met figures) = IsMetWith problem ii met figures
HasEvidence problem (Failed cause) = IsUnmet problem cause

-- how many intervals are tried that give no kernel: all before the chosen one, or all
abbrev pub failures_of : ProblemData → Choice → ℕ
failures_of problem (choice.Met ii kernel) = ii - mii_of problem
failures_of problem (choice.Failed cause) = problem.ceiling + 1

-- the choice of a loop with its evidence, and why each interval, from the least one on, that was tried gives no kernel, with the needs of the
-- first and the last one that fail for registers
pub record IsTold (problem : ProblemData) (told : Told) : Type 0 where
  pub is_choice : IsChoice problem (choice_of told.chosen)
  pub has_evidence : HasEvidence problem told.chosen
  pub are_reasons : AllZip (FailsAs problem) (range_with_len (mii_of problem) (failures_of problem (choice_of told.chosen))) told.reasons.items
  pub tell_needs : TellNeeds false told.reasons.items
