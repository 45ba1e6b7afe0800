-- A draft without a fault, and what is scheduled of it.
use Rattle.std.proofs.Common.{◌≡◌, ℕ, refl}
use Rattle.std.specs.Prelude.{None}
use Rattle.schedules.specs.Problems.{ProblemData as SchedulingData}
use Rattle.problems.specs.declared.draft.Draft.{Draft}
use Rattle.problems.specs.Drafts.{IsWellFormed}
use Rattle.problems.specs.Faults.{first_fault_of}
use Rattle.problems.specs.Problems.{IsSchedulingOf, IsProblem, IsProblemOf}
use Rattle.problems.proofs.faults.Sound.{sound-well_formed}

pub is-well_formed : (draft : Draft) → first_fault_of draft ≡ None → IsWellFormed draft
is-well_formed draft none = (sound-well_formed draft).0 none

pub is-problem : (draft : Draft) (scheduling : SchedulingData) → first_fault_of draft ≡ None → IsSchedulingOf draft scheduling → IsProblem (record { draft = draft; scheduling = scheduling })
is-problem draft scheduling none is = record { is_well_formed = is-well_formed draft none; is_scheduling = is }

pub is-problem_of : (draft : Draft) (scheduling : SchedulingData) (ratio ceiling : ℕ) → first_fault_of draft ≡ None → IsSchedulingOf draft scheduling → scheduling.ratio ≡ ratio → scheduling.ceiling ≡ ceiling
    → IsProblemOf draft ratio ceiling (record { draft = draft; scheduling = scheduling })
is-problem_of draft scheduling ratio ceiling none is same_ratio same_ceiling =
    record { is_problem = is-problem draft scheduling none is; same_draft = refl; same_ratio = same_ratio; same_ceiling = same_ceiling }
