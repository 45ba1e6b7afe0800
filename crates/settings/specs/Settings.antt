-- The settings of a listing.
use Rattle.std.specs.Prelude.{ℕ, ◌≤◌, List, codes}
use Rattle.machine_data.specs.declared.limits.TheConstants.{MAX_CEILING, MAX_CUT, MAX_RATIO, MAX_WORKERS}
use Rattle.settings.specs.declared.OutOfRange.{OutOfRange}
use Rattle.settings.specs.declared.OutOfRange.TheVariants.{Ratio, Ceiling, Workers, Cut}

-- an attempt may make ratio times as many placements as there are operations, for all together; how many intervals above its least
-- one a loop is tried at, how many workers there are, and how many intervals a piece has
pub record SettingsData : Type 0 where
  pub ratio : ℕ
  pub ceiling : ℕ
  pub workers : ℕ
  pub cut : ℕ

pub record AreSettings (settings : SettingsData) : Type 0 where
  pub ratio_some : 1 ≤ settings.ratio
  pub ratio_few : settings.ratio ≤ MAX_RATIO
  pub ceiling_few : settings.ceiling ≤ MAX_CEILING
  pub workers_some : 1 ≤ settings.workers
  pub workers_few : settings.workers ≤ MAX_WORKERS
  pub cut_some : 1 ≤ settings.cut
  pub cut_few : settings.cut ≤ MAX_CUT

-- this setting is out of its range
abbrev pub IsOutside : SettingsData → OutOfRange → Type 0
IsOutside settings Ratio = (1 ≤ settings.ratio) × (settings.ratio ≤ MAX_RATIO) → ⊥
IsOutside settings Ceiling = settings.ceiling ≤ MAX_CEILING → ⊥
IsOutside settings Workers = (1 ≤ settings.workers) × (settings.workers ≤ MAX_WORKERS) → ⊥
IsOutside settings Cut = (1 ≤ settings.cut) × (settings.cut ≤ MAX_CUT) → ⊥

-- what is told of a setting that is out of its range
abbrev pub told_of : OutOfRange → List ℕ
told_of Ratio = codes "the ratio is not 1 to 64"
told_of Ceiling = codes "the ceiling is not 0 to 255"
told_of Workers = codes "the number of workers is not 1 to 64"
told_of Cut = codes "the cut is not 1 to 256"
