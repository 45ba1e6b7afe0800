-- Names are UTF-8.
use Rattle.std.proofs.Common.{ℕ, suc, zero, ◌<◌, List, [], ◌∷◌, get_or, arith, lit<}
use Rattle.std.specs.List.{All}
use Rattle.std.specs.Str.{IsUtf8}
use Rattle.std.proofs.lemmas.List.Elements.{All-head, All-tail}
use Rattle.std.proofs.lemmas.Str.{IsUtf8-from_ascii}
use Rattle.problems.specs.Labels.{IsLabel, IsPrintable}

ascii-at : (bytes : List ℕ) → All IsPrintable bytes → (i : ℕ) → get_or bytes i 0 < 128
ascii-at [] all i = lit< tt
ascii-at (byte ∷ bytes) all zero = let high = (All-head IsPrintable byte bytes all).high in omega (arith, high)
ascii-at (byte ∷ bytes) all (suc i) = ascii-at bytes (All-tail IsPrintable byte bytes all) i

pub label-utf8 : (bytes : List ℕ) → IsLabel bytes → IsUtf8 bytes
label-utf8 bytes is = IsUtf8-from_ascii bytes (ascii-at bytes is.printable)
