-- What is left to try after reports.
use Rattle.std.specs.Prelude.{ℕ, zero, suc, ◌+◌, ◌-◌, if◌then◌else◌, List, [], ◌∷◌}
use Rattle.loop_schedules.specs.Problems.{ProblemData, mii_of}
use Rattle.loop_listings.specs.declared.choices.Choice.{Choice}
use Rattle.loop_listings.specs.declared.choices.Choice.TheVariants.{Met, Failed}
use Rattle.reports.specs.Entries.{ReportData, is_settled_in}

-- how many of a loop's intervals are tried in turn up to its choice
abbrev pub tried : ProblemData → Choice → ℕ
tried problem (Met ii kernel) = ii + 1 - mii_of problem
tried problem (Failed cause) = problem.ceiling + 1

-- how many of a loop's intervals, from `start` on, no report settles; the last number is how many are looked at
abbrev pub missing_in : List ReportData → ℕ → ℕ → ℕ → ℕ
missing_in reports l start zero = 0
missing_in reports l start (suc n) = (if is_settled_in reports l start then 0 else 1) + missing_in reports l (start + 1) n

-- how many intervals are left to try for the loops from a number on
abbrev pub retried_from : List ReportData → ℕ → List ProblemData → List Choice → ℕ
retried_from reports l [] choices = 0
retried_from reports l (p ∷ ps) [] = 0
retried_from reports l (p ∷ ps) (c ∷ cs) = missing_in reports l (mii_of p) (tried p c) + retried_from reports (l + 1) ps cs
