-- What one pass did, and what a call adds to it.
use Rattle.std.specs.Prelude.{◌≡◌, ℕ, ◌+◌, ◌<◌, ◌≤◌, Bool, if◌then◌else◌, nat_lt, List, [], ◌∷◌, ◌++◌, All, Option, None, Some, MatchBool}
use Rattle.board.specs.declared.view.View.{View}

-- a view of some parts in which nothing was done
abbrev pub blank : ℕ → View
blank count = record { drawn = []; posted = []; seen = []; count = count }

-- how many of the numbers are not below the number of pieces
abbrev pub beyond : ℕ → List ℕ → ℕ
beyond pieces [] = 0
beyond pieces (x ∷ xs) = (if nat_lt x pieces then 0 else 1) + beyond pieces xs

-- some number drawn is not below the number of pieces
abbrev pub is_dry : ℕ → View → Bool
is_dry pieces v = nat_lt 0 (beyond pieces v.drawn)

abbrev pub with_drawn : View → ℕ → View
with_drawn v n = record { drawn = v.drawn ++ n ∷ []; posted = v.posted; seen = v.seen; count = v.count }

abbrev pub with_posted : View → ℕ → ℕ → View
with_posted v l ii = record { drawn = v.drawn; posted = v.posted ++ (l, ii) ∷ []; seen = v.seen; count = v.count }

abbrev pub with_seen : View → ℕ → Option ℕ → View
with_seen v l a = record { drawn = v.drawn; posted = v.posted; seen = v.seen ++ (l, a) ∷ []; count = v.count }

-- no higher; none is above every number
abbrev pub IsAtMost : Option ℕ → Option ℕ → Type 0
IsAtMost a None = Unit {0}
IsAtMost None (Some y) = ⊥
IsAtMost (Some x) (Some y) = x ≤ y

-- just one number more, above all that the pass drew before, which is the answer where it is a piece's
abbrev pub Draws : ℕ → View → Option ℕ → View → Type 0
Draws pieces v answer w =
    (n : ℕ) × (w ≡ with_drawn v n) × All (λ x. x < n) v.drawn × (answer ≡ (if nat_lt n pieces then Some n else None))

-- a dry pass draws nothing, and is answered nothing
abbrev pub DrawsUnlessDry : ℕ → View → Option ℕ → View → Type 0
DrawsUnlessDry pieces v answer w = MatchBool (is_dry pieces v) ((w ≡ v) × (answer ≡ None)) (Draws pieces v answer w)

-- the answer is at or below all that the pass had posted for the loop, and all that it had seen for it
abbrev pub IsNoLater : View → ℕ → Option ℕ → Type 0
IsNoLater v l answer = All (λ p. p.0 ≡ l → IsAtMost answer (Some p.1)) v.posted × All (λ s. s.0 ≡ l → IsAtMost answer s.1) v.seen

-- just one answer more
abbrev pub Looks : ℕ → View → Option ℕ → View → Type 0
Looks l v answer w = (w ≡ with_seen v l answer) × IsNoLater v l answer
