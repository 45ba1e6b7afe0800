-- Where the elements of lists come from.
use Rattle.std.proofs.Common.{◌≡◌, ◌<◌, List, [], ◌∷◌, ◌++◌, inl, inr, refl, sym, ap, arith, append_assoc}
use Rattle.std.proofs.lemmas.List.{append-nil}
use Rattle.std.proofs.lemmas.List.Elements.{Contains-append_cases, Contains-append_left, Contains-append_right, Contains-push, Contains-push_cases}
use Rattle.std.specs.List.{Contains, flat_map}
use Rattle.toml.specs.Data.{Data}
use Rattle.machine_lint.specs.Tree.{Lints, in_turn, told_unless}
use Rattle.machine_lint.specs.declared.place.MachineLint.{MachineLint}
use Rattle.std.proofs.Common.{Bool, true, false}

pub none-in : {X : Type 0} (y : X) → Contains [] y → ⊥
none-in y h = let below : h.0 < 0 = h.1 in omega arith

pub one-is : {X : Type 0} (x y : X) → Contains (x ∷ []) y → x ≡ y
one-is x y h = elim (Contains-push_cases [] x y h) [ inl none ↦ absurd (none-in y none) | inr is ↦ is ]

pub one-in : {X : Type 0} (x y : X) → y ≡ x → Contains (x ∷ []) y
one-in x y is = rw is (Contains-push [] x)

pub unless-in : (b : Bool) (lint y : MachineLint) → Contains (told_unless b lint) y → (b ≡ false) × (y ≡ lint)
unless-in true lint y h = absurd (none-in y h)
unless-in false lint y h = (refl, sym (one-is lint y h))

pub in-unless : (b : Bool) (lint y : MachineLint) → b ≡ false → y ≡ lint → Contains (told_unless b lint) y
in-unless b lint y fails is = rw fails (one-in lint y is)

pub in-flat : {X Y : Type 0} (f : X → List Y) (xs : List X) (x : X) (y : Y) → Contains xs x → Contains (f x) y → Contains (flat_map f xs) y
in-flat f [] x y h k = absurd (none-in x h)
in-flat f (z ∷ xs) x y h k = elim (Contains-append_cases (z ∷ []) xs x h) [
  | inl here ↦ Contains-append_left (f z) (flat_map f xs) y (rw (one-is z x here) k)
  | inr there ↦ Contains-append_right (f z) (flat_map f xs) y (in-flat f xs x y there k)
]

pub flat-in : {X Y : Type 0} (f : X → List Y) (xs : List X) (y : Y) → Contains (flat_map f xs) y → (x : X) × Contains xs x × Contains (f x) y
flat-in f [] y h = absurd (none-in y h)
flat-in f (x ∷ xs) y h = elim (Contains-append_cases (f x) (flat_map f xs) y h) [
  | inl here ↦ (x, Contains-append_left (x ∷ []) xs x (one-in x x refl), here)
  | inr there ↦ let k = flat-in f xs y there in (k.0, Contains-append_right (x ∷ []) xs k.0 k.1, k.2)
]

-- of one element after another
pub record InTurn (check : List Data → Data → Lints) (first ds : List Data) (y : MachineLint) : Type 0 where
  pub before : List Data
  pub value : Data
  pub after : List Data
  pub is : ds ≡ before ++ value ∷ after
  pub among : Contains (check (first ++ before) value) y

pub turn-in : (check : List Data → Data → Lints) (first ds : List Data) (y : MachineLint) → Contains (in_turn check first ds) y → InTurn check first ds y
turn-in check first [] y h = absurd (none-in y h)
turn-in check first (d ∷ ds) y h = elim (Contains-append_cases (check first d) (in_turn check (first ++ d ∷ []) ds) y h) [
  | inl here ↦ record { before = []; value = d; after = ds; is = refl; among = rw append-nil here }
  | inr there ↦
      let k = turn-in check (first ++ d ∷ []) ds y there in
      record { before = d ∷ k.before; value = k.value; after = k.after; is = ap (λ (l : List Data). d ∷ l) k.is; among = rw append_assoc at k.among }
]

pub in-turn : (check : List Data → Data → Lints) (first before : List Data) (value : Data) (after : List Data) (y : MachineLint) → Contains (check (first ++ before) value) y → Contains (in_turn check first (before ++ value ∷ after)) y
in-turn check first [] value after y h = Contains-append_left (check first value) (in_turn check (first ++ value ∷ []) after) y (rw append-nil at h)
in-turn check first (d ∷ before) value after y h =
    Contains-append_right (check first d) (in_turn check (first ++ d ∷ []) (before ++ value ∷ after)) y (in-turn check (first ++ d ∷ []) before value after y (rw append_assoc h))
