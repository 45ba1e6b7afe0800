-- Rotating registers: their names move on by one in each turn.
use Rattle.std.specs.Prelude.{ℕ, ℤ, pos, ◌-ℤ◌}
use Rattle.std.specs.Prelude.{unsigned_abs}
use Rattle.std.specs.Int.{int_rem_euclid}

-- the physical register that a name means in a turn: one less each turn, around the registers
abbrev pub physical : ℕ → ℕ → ℤ → ℕ
physical registers name turn = unsigned_abs (int_rem_euclid (pos name -ℤ turn) (pos registers))
