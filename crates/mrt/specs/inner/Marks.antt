-- What bits tell of rows at every interval.
use Rattle.std.specs.Prelude.{◌≡◌, ℕ, ◌%◌, ◌<◌, ◌==◌, Bool, not}
use Rattle.std.specs.Int.{bit_at}
use Rattle.std.specs.Int.Bits.{bit_and}

-- of the bits below 64, those of the multiples of the interval are set
abbrev pub AreMultiples : ℕ → ℕ → Type 0
AreMultiples ii bits = (cycles : ℕ) → cycles < 64 → (bit_at bits cycles == 1) ≡ (cycles % ii == 0)

-- at each interval what is asked holds just where one of its multiples is among the bits
abbrev pub Tells : ℕ → (ℕ → Bool) → Type 0
Tells bits holds = (ii multiples : ℕ) → 0 < ii → AreMultiples ii multiples → holds ii ≡ not (bit_and bits multiples == 0)
