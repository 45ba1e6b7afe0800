-- Operations with their heights, each pair as one number.
use Rattle.std.specs.Prelude.{◌≡◌, ℕ, ◌+◌, ◌-◌, ◌*◌, ◌<◌, List, length, slice_index}

-- the number of an operation: it falls as the height rises, and grows with the operation's own number, which is below 128
abbrev pub key_of : ℕ → ℕ → ℕ
key_of height op = (8192 - height) * 128 + op

-- the list has the number of each operation, in order
pub record AreKeys (heights list : List ℕ) : Type 0 where
  pub whole : length list ≡ length heights
  pub each : (op : ℕ) → op < length heights → slice_index list op ≡ key_of (slice_index heights op) op
