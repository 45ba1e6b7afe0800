-- Scheduling problems as data.
use Rattle.std.specs.Prelude.{◌≡◌, ℕ, Some, None, Result, Ok, Err}
use Rattle.edges.specs.Graphs.{IsGraphWith}
use Rattle.schedules.specs.Problems.{ProblemData as SchedulingData, IsProblem as IsScheduling}
use Rattle.problems.specs.declared.draft.Draft.{Draft}
use Rattle.problems.specs.declared.fault.Refusal.{Refusal}
use Rattle.problems.specs.declared.fault.Refusal.TheVariants.{Fault, Memory}
use Rattle.problems.specs.Drafts.{IsWellFormed, latencies_of, operations_of, edges_of}
use Rattle.problems.specs.Faults.{first_fault_of}

-- a draft, and what is scheduled of it
pub record ProblemData : Type 0 where
  pub draft : Draft
  pub scheduling : SchedulingData

-- this is scheduled of the draft: its operations with their latencies and alternatives, and just its edges
pub record IsSchedulingOf (draft : Draft) (scheduling : SchedulingData) : Type 0 where
  pub is_problem : IsScheduling scheduling
  pub is_graph : IsGraphWith (edges_of draft) (latencies_of draft) scheduling.graph
  pub same_operations : scheduling.operations ≡ operations_of draft

pub record IsProblem (problem : ProblemData) : Type 0 where
  pub is_well_formed : IsWellFormed problem.draft
  pub is_scheduling : IsSchedulingOf problem.draft problem.scheduling

-- the problem of a draft, with this budget ratio and ceiling
pub record IsProblemOf (draft : Draft) (ratio ceiling : ℕ) (problem : ProblemData) : Type 0 where
  pub is_problem : IsProblem problem
  pub same_draft : problem.draft ≡ draft
  pub same_ratio : problem.scheduling.ratio ≡ ratio
  pub same_ceiling : problem.scheduling.ceiling ≡ ceiling

-- a draft without a fault gives its problem, and another one its first fault; memory may run out with either
abbrev pub AnswersDraft : Draft → ℕ → ℕ → Result ProblemData Refusal → Type 0
AnswersDraft draft ratio ceiling (Ok problem) = (first_fault_of draft ≡ None) × IsProblemOf draft ratio ceiling problem
AnswersDraft draft ratio ceiling (Err (Fault fault)) = first_fault_of draft ≡ Some fault
AnswersDraft draft ratio ceiling (Err (Memory cause)) = Unit {0}
