-- Names of the parts of a scheduling problem.
use Rattle.std.specs.Prelude.{◌≢◌, ℕ, ◌<◌, ◌≤◌, List, length}
use Rattle.machine_data.specs.declared.limits.TheConstants.{MAX_LABEL}
use Rattle.std.specs.List.{All}

-- a byte of printable ASCII, but not '#'
pub record IsPrintable (byte : ℕ) : Type 0 where
  pub low : 33 ≤ byte
  pub high : byte ≤ 126
  pub no_comment : byte ≢ 35

-- 1 to 64 such bytes
pub record IsLabel (name : List ℕ) : Type 0 where
  pub some : 0 < length name
  pub few : length name ≤ MAX_LABEL
  pub printable : All IsPrintable name
