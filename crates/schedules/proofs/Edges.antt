-- Edges in lists.
use Rattle.std.proofs.Common.{◌≡◌, ◌⊎◌, ℕ, zero, suc, ◌<◌, List, ◌∷◌, length, get_or, inl, inr, arith}
use Rattle.std.specs.List.{Contains}
use Rattle.edges.specs.Edges.{EdgeData}

pub in_rest : (x : EdgeData) (xs : List EdgeData) (y : EdgeData) (k : ℕ) → k < length (x ∷ xs) → get_or (x ∷ xs) k y ≡ y → (x ≡ y) ⊎ Contains xs y
in_rest x xs y zero below e = inl e
in_rest x xs y (suc k) below e = inr (k, omega arith, e)

pub after : (x : EdgeData) (xs : List EdgeData) (e : EdgeData) → Contains xs e → Contains (x ∷ xs) e
after x xs e c = (suc c.0, (let below : c.0 < length xs = c.1 in let h : suc c.0 < length (x ∷ xs) = omega arith in h), c.2)
