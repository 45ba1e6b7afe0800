-- How inputs and outputs in memory fail.
use Rattle.std.specs.Prelude.{◌≡◌, ◌≢◌, ℕ, ◌+◌, ◌-◌, Bool, true, false, min, List, ◌++◌, length, take, drop, Option, Some, None, Result, Ok, Err}
use Rattle.devices.specs.declared.device.Fault.{Fault}

-- how an input that fails reads: how many bytes it gives at most, and after how many reads one fails
pub record Reading : Type 0 where
  pub most : ℕ
  pub countdown : Option ℕ

-- the bytes that such an input has left, how many of its reads failed, and how it reads on
abbrev pub FaultyLeft : Type 0
FaultyLeft = List ℕ × ℕ × Reading

-- one more read is done
abbrev pub counted : Option ℕ → Option ℕ
counted None = None
counted (Some reads) = Some (reads - 1)

-- a read into a buffer of this room fails where the fault is due, and never again; else it gives as many bytes as there are and fit
abbrev pub FaultyReads : FaultyLeft → FaultyLeft → ℕ → Result ℕ Fault → Type 0
FaultyReads before after room (Err fault) = (before.2.countdown ≡ Some 0)
    × (after ≡ (before.0, before.1 + 1, record { most = before.2.most; countdown = None }))
FaultyReads before after room (Ok n) = (before.2.countdown ≢ Some 0)
    × (n ≡ min (min room (length before.0)) before.2.most)
    × (after ≡ (drop n before.0, before.1, record { most = before.2.most; countdown = counted before.2.countdown }))

-- how an output that fails writes: how many bytes it takes at most, how many more in all, and whether its flushes succeed
pub record Writing : Type 0 where
  pub most : ℕ
  pub space : ℕ
  pub flushes : Bool

-- the bytes that such an output took, how many of its calls failed, how many of the bytes it handed on, and how it writes on
abbrev pub FaultyTaken : Type 0
FaultyTaken = List ℕ × ℕ × ℕ × Writing

-- a write takes as many bytes as there are and fit; where it fails nothing but the count of faults changes
abbrev pub FaultyWrites : FaultyTaken → FaultyTaken → List ℕ → Result ℕ Fault → Type 0
FaultyWrites before after bytes (Err fault) = after ≡ (before.0, before.1 + 1, before.2, before.3)
FaultyWrites before after bytes (Ok n) = (n ≡ min (min (length bytes) before.3.space) before.3.most)
    × (after ≡ (before.0 ++ take n bytes, before.1, before.2, record before.3 { space = before.3.space - n }))

-- a flush succeeds where flushes do, and then hands on all that was taken
abbrev pub FaultyFlushes : FaultyTaken → FaultyTaken → Result (Unit {0}) Fault → Type 0
FaultyFlushes before after (Err fault) = (before.3.flushes ≡ false) × (after ≡ (before.0, before.1 + 1, before.2, before.3))
FaultyFlushes before after (Ok done) = (before.3.flushes ≡ true) × (after ≡ (before.0, before.1, length before.0, before.3))
