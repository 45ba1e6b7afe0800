-- What is read of a text, at most, is one byte past what a text may have.
use Rattle.std.proofs.Common.{◌≡◌, ℕ, ◌<◌, List, length, take, arith}
use Rattle.std.proofs.lemmas.List.{length-take-le}
use Rattle.devices.specs.Devices.{most_read}

pub past_limit : 1048576 < most_read
unfolding most_read
past_limit = omega arith

-- as much of a long text as is read is too long
pub taken_too_long : (text : List ℕ) → most_read < length text → (1048576 < length (take most_read text)) × (1048576 < length text)
unfolding most_read
taken_too_long text h = let e : length (take 1048577 text) ≡ 1048577 = length-take-le 1048577 text (omega arith) in (omega (arith, e), omega arith)
