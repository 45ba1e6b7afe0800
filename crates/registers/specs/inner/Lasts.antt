-- The last cycle in which a value is read, told by the cycle after it.
use Rattle.std.specs.Prelude.{ℕ, ◌-◌, ◌==◌, if◌then◌else◌}

-- the cycle before this one; 0 tells that there is none, and then it is the landing
abbrev pub last_or : ℕ → ℕ → ℕ
last_or landing after = if after == 0 then landing else after - 1
