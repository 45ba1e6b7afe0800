-- What each variant of a machine brings the loops of a file in all, as text.
use Rattle.std.specs.Prelude.{◌≡◌, ℕ, ◌==◌, nat_lt, Bool, true, false, codes, List, ◌++◌, length, filter, Option, Some, None, is_none, is_some, count_by}
use Rattle.std.specs.List.{AllZip, list_any, sum_by, zip}
use Rattle.machine_data.specs.Machines.{MachineData}
use Rattle.loop_data.specs.Loops.{LoopData}
use Rattle.lower_bounds.specs.Texts.{AreTexts}
use Rattle.writing.specs.Words.{last_line, told}
use Rattle.loop_schedules.specs.Problems.{ProblemData, IsProblemOf}
use Rattle.written.specs.Written.{Written}
use Rattle.machine_variants.specs.declared.variant.Variant.{Variant}
use Rattle.machine_variants.specs.Variants.{concerns, passes_limit, variants_of}
use Rattle.variants.specs.Intervals.{IsIntervalOf, IsVariedInterval}
use Rattle.variants.specs.Texts.{variant_text}

-- how many cycles the interval of a loop has: none where there is no interval
abbrev pub cycles : Option ℕ → ℕ
cycles None = 0
cycles (Some ii) = ii

-- one interval is longer than another. That there is none counts as longer than each
abbrev pub is_longer : Option ℕ → Option ℕ → Bool
is_longer one None = false
is_longer None (Some other) = true
is_longer (Some one) (Some other) = nat_lt other one

-- how many loops have a longer interval by the first list than by the second
abbrev pub number_longer : List (Option ℕ) → List (Option ℕ) → ℕ
number_longer some others = count_by (λ both. is_longer both.0 both.1) (zip some others)

-- ` ii SUM failed F`: the sum of the intervals of loops that have one, and how many have none
abbrev pub sum_text : List (Option ℕ) → List ℕ
sum_text intervals = told (codes " ii ") (sum_by cycles intervals) ++ told (codes " failed ") (count_by is_none intervals)

-- ` shorter A longer B`: how many loops have another interval than on the machine as it is
abbrev pub change_text : List (Option ℕ) → List (Option ℕ) → List ℕ
change_text own others = told (codes " shorter ") (number_longer own others) ++ told (codes " longer ") (number_longer others own)

-- the intervals of the loops of problems on a variant, or that it passes a limit
abbrev pub IsTotalOn : MachineData → List ProblemData → List (Option ℕ) → Variant → Bool → List ℕ → Type 0
IsTotalOn machine problems own variant true text = text ≡ codes " -\n"
IsTotalOn machine problems own variant false text =
    (others : List (Option ℕ)) × AllZip (λ problem interval. IsVariedInterval machine problem variant interval) problems others
    × (text ≡ (sum_text others ++ change_text own others) ++ codes "\n")

-- some loop is concerned by the variant
abbrev pub concerns_some : MachineData → List ProblemData → Variant → Bool
concerns_some machine problems variant = list_any (λ (problem : ProblemData). concerns machine problem.loop variant) problems

-- a line for each variant that concerns some loop, in order
abbrev pub AreTotals : MachineData → List ProblemData → List (Option ℕ) → List Variant → List ℕ → Type 0
AreTotals machine problems own variants lines =
    AreTexts (λ variant text. IsTotalOn machine problems own variant (passes_limit machine variant) text) (λ variant text. variant_text machine variant ++ text)
    (filter (concerns_some machine problems) variants) lines

-- `total loops N` and the sums for the machine as it is, the lines of the variants, and then `loops N met A failed F`; with whether
-- every loop has an interval
pub record IsTotalOf (machine : MachineData) (problems : List ProblemData) (written : Written) : Type 0 where
  pub own : List (Option ℕ)
  pub each_own : AllZip IsIntervalOf problems own
  pub lines : List ℕ
  pub are_totals : AreTotals machine problems own (variants_of machine) lines
  pub is_text : written.text ≡ (((told (codes "total loops ") (length problems) ++ sum_text own) ++ codes "\n") ++ lines) ++ last_line (codes "loops ") (length problems) (count_by is_some own) (count_by is_none own)
  pub all_met : written.all_met ≡ (count_by is_none own == 0)

-- that of each loop's problem on the machine
pub record IsVaryTotal (ratio ceiling : ℕ) (machine : MachineData) (loops : List LoopData) (written : Written) : Type 0 where
  pub problems : List ProblemData
  pub each_problem : AllZip (λ loop problem. IsProblemOf machine loop ratio ceiling problem) loops problems
  pub is_total_of : IsTotalOf machine problems written
