-- The least interval of a loop by its number.
use Rattle.std.proofs.Common.{◌≡◌, ℕ, zero, suc, ◌<◌, List, [], ◌∷◌, length, refl, arith, slice_index_or}
use Rattle.loop_schedules.specs.Problems.{ProblemData, mii_of}
use Rattle.reports.specs.Entries.{mii_at}

pub mii_there : (loops : List ProblemData) (l : ℕ) (any : ProblemData) → l < length loops → mii_of (slice_index_or loops l any) ≡ mii_at loops l
mii_there [] l any near = absurd (omega arith)
mii_there (p ∷ ps) zero any near = refl
mii_there (p ∷ ps) (suc l) any near = mii_there ps l any (omega arith)
