-- The sums of a walk's first edges, and one more.
use Rattle.std.proofs.Common.{◌≡◌, ℕ, ◌+◌, ◌<◌, pos, ◌+ℤ◌, List, [], ◌∷◌, length, get_or, take, ap, ◌∙◌, arith}
use Rattle.std.proofs.lemmas.Int.{ints}
use Rattle.std.proofs.lemmas.List.{take_more}
use Rattle.edges.specs.Edges.{EdgeData}
use Rattle.walks.specs.Walks.{delay_of, distance_of}
use Rattle.walks.proofs.Circuits.{delay_of-append, distance_of-append}

pub delay-more : (xs : List EdgeData) (i : ℕ) (d : EdgeData) → i < length xs → delay_of (take (i + 1) xs) ≡ (delay_of (take i xs) +ℤ (get_or xs i d).delay)
delay-more xs i d h =
    let e : delay_of (take (i + 1) xs) ≡ (delay_of (take i xs) +ℤ ((get_or xs i d).delay +ℤ pos 0))
    = ap delay_of (take_more xs i d h) ∙ delay_of-append (take i xs) (get_or xs i d ∷ []) in
    omega (arith, ints)

pub distance-more : (xs : List EdgeData) (i : ℕ) (d : EdgeData) → i < length xs → distance_of (take (i + 1) xs) ≡ distance_of (take i xs) + (get_or xs i d).distance
distance-more xs i d h =
    let e : distance_of (take (i + 1) xs) ≡ distance_of (take i xs) + ((get_or xs i d).distance + 0)
    = ap distance_of (take_more xs i d h) ∙ distance_of-append (take i xs) (get_or xs i d ∷ []) in
    omega arith
