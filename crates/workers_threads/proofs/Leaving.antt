-- Where no worker was refused memory, nothing is left to try.
use Rattle.std.proofs.Common.{◌≡◌, ℕ, ◌<◌, ◌≤◌, Bool, true, List, [], ◌∷◌, length, refl, sym, ◌∙◌, subst, arith, slice_index_or}
use Rattle.std.specs.Prelude.{All, Any, IsTrue, ◌||◌}
use Rattle.std.specs.List.{AllZip, list_any}
use Rattle.std.proofs.lemmas.List.Folds.{Any-from_list_any}
use Rattle.loop_schedules.specs.Problems.{ProblemData}
use Rattle.candidates.specs.Choices.{IsChoice}
use Rattle.loop_listings.specs.declared.choices.Choice.{Choice}
use Rattle.workers.specs.Entries.{HasNoRefusal, ReportData}
use Rattle.workers.specs.Gathered.{retried_from}
use Rattle.workers.specs.Settled.{LeaveNothing}

first_dry : (reports : List ReportData) → 0 < length reports → All (λ (r : ReportData). IsTrue r.dry) reports → Any (λ (r : ReportData). IsTrue r.dry) reports
first_dry [] some dry = absurd (omega arith)
first_dry (r ∷ rs) some dry = Any-from_list_any (λ (r : ReportData). r.dry) (r ∷ rs) (either_way r.dry (list_any (λ (r : ReportData). r.dry) rs) (dry 0 r (omega arith)))
  where
    either_way : (a b : Bool) → a ≡ true → (a || b) ≡ true
    either_way a b is = subst (λ c. (c || b) ≡ true) (sym is) refl

pub none_left : (loops : List ProblemData) (reports : List ReportData) (choices : List Choice) (workers retried : ℕ) → LeaveNothing loops reports
    → All (λ (r : ReportData). IsTrue r.dry) reports → All (λ (r : ReportData). r.loops ≡ loops) reports → All (λ (r : ReportData). HasNoRefusal r.loops r) reports
    → length reports ≡ workers → 1 ≤ workers → AllZip IsChoice loops choices → retried ≡ retried_from reports 0 loops choices → retried ≡ 0
none_left loops reports choices workers retried left dry same whole each some are told =
    told ∙ left (first_dry reports (omega arith) dry)
    (λ k d near. subst (λ ls. HasNoRefusal ls (slice_index_or reports k d)) (same k d near) (whole k d near)) choices are
