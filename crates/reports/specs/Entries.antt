-- What a report tells of the intervals of loops.
use Rattle.std.specs.Prelude.{◌≡◌, ◌≢◌, ◌⊎◌, ℕ, zero, suc, ◌+◌, Bool, true, false, ◌<◌, ◌≤◌, ◌&&◌, ◌==◌, List, [], ◌∷◌, ◌++◌, length}
use Rattle.std.specs.List.{All, list_any, slice_index_or}
use Rattle.loop_schedules.specs.Problems.{ProblemData, mii_of}
use Rattle.candidates.specs.Choices.{last_of}
use Rattle.candidates.specs.Outcomes.{GivesKernel, FailsBy}
use Rattle.reports.specs.declared.entry.Entry.{Entry}
use Rattle.reports.specs.declared.entry.Found.{Found}
use Rattle.reports.specs.declared.entry.Found.TheVariants.{Won, Failed, Beaten, Unsettled}

-- the loops that a report is of, its entries, how many pieces were lost for lack of memory, and whether its pass went dry;
-- `room` is how many more entries there is memory for
pub record ReportData : Type 0 where
  pub loops : List ProblemData
  pub entries : List Entry
  pub lost : ℕ
  pub dry : Bool
  pub room : ℕ

-- what an entry says is so at its interval of its loop; that it was beaten or is unsettled says nothing
abbrev pub IsTrueAt : ProblemData → ℕ → Found → Type 0
IsTrueAt problem ii (Won kernel) = GivesKernel problem ii kernel.value
IsTrueAt problem ii (Failed cause) = FailsBy problem ii cause
IsTrueAt problem ii Beaten = Unit {0}
IsTrueAt problem ii Unsettled = Unit {0}

-- an entry of an interval that is tried, and true of it
pub record IsEntryOf (entry : Entry) (problem : ProblemData) : Type 0 where
  pub from_mii : mii_of problem ≤ entry.interval
  pub to_last : entry.interval ≤ last_of problem
  pub truth : IsTrueAt problem entry.interval entry.found

-- the loop is there, and the entry is of it
pub record IsEntry (loops : List ProblemData) (entry : Entry) : Type 0 where
  pub there : entry.loop_number < length loops
  pub of_loop : (any : ProblemData) → IsEntryOf entry (slice_index_or loops entry.loop_number any)

-- a report of these loops, in which nothing was refused
pub record HasNoRefusal (loops : List ProblemData) (report : ReportData) : Type 0 where
  pub same_loops : report.loops ≡ loops
  pub entries : All (IsEntry loops) report.entries
  pub settled : All (λ (e : Entry). e.found ≢ Unsettled) report.entries
  pub lost : report.lost ≡ 0

-- an entry more, and nothing else
pub record Enters (before : ReportData) (entry : Entry) (after : ReportData) : Type 0 where
  pub same_loops : after.loops ≡ before.loops
  pub entries : after.entries ≡ before.entries ++ entry ∷ []
  pub same_lost : after.lost ≡ before.lost
  pub same_dry : after.dry ≡ before.dry
  pub room : after.room + 1 ≡ before.room

-- the least interval of a loop by its number, 0 where it isn't there
abbrev pub mii_at : List ProblemData → ℕ → ℕ
mii_at [] l = 0
mii_at (p ∷ ps) zero = mii_of p
mii_at (p ∷ ps) (suc l) = mii_at ps l

-- x is in the list
abbrev pub In : {X : Type 0} → X → List X → Type 0
In x [] = ⊥
In x (y ∷ ys) = (y ≡ x) ⊎ In x ys

-- the loop of an entry, and its interval
abbrev pub entry_place : Entry → ℕ × ℕ
entry_place e = (e.loop_number, e.interval)

-- each loop with an interval that was won, in order
abbrev pub with_won : Found → ℕ × ℕ → List (ℕ × ℕ) → List (ℕ × ℕ)
with_won (Won kernel) place rest = place ∷ rest
with_won _ place rest = rest

abbrev pub won_of : List Entry → List (ℕ × ℕ)
won_of [] = []
won_of (e ∷ es) = with_won e.found (entry_place e) (won_of es)

-- a kernel was found
abbrev pub is_won : Found → Bool
is_won (Won kernel) = true
is_won _ = false

-- won or failed
abbrev pub is_settled : Found → Bool
is_settled (Won kernel) = true
is_settled (Failed cause) = true
is_settled Beaten = false
is_settled Unsettled = false

-- memory ran out while it was tried
abbrev pub is_unsettled : Found → Bool
is_unsettled Unsettled = true
is_unsettled _ = false

-- some report has an entry there that is won or failed
abbrev pub settles : ℕ → ℕ → Entry → Bool
settles l ii e = ((e.loop_number == l) && (e.interval == ii)) && is_settled e.found

abbrev pub is_settled_in : List ReportData → ℕ → ℕ → Bool
is_settled_in reports l ii = list_any (λ (r : ReportData). list_any (settles l ii) r.entries) reports
