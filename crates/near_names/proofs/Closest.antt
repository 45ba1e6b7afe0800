-- The answer is the nearest name.
use Rattle.std.proofs.Common.{◌≡◌, ℕ, ◌+◌, ◌<◌, ◌≤◌, ◌&&◌, Bool, true, false, cond, List, [], ◌∷◌, length, Option, Some, None, refl, sym, ap, arith, leb, ltb}
use Rattle.std.proofs.lemmas.Bool.{true≢false}
use Rattle.std.proofs.lemmas.Bool.Decides.{nat_tests}
use Rattle.std.specs.Option.{option_or}
use Rattle.near_names.specs.Nearest.{IsNearestBelow, distance, is_nearer, nearest_below}

both : (short : Bool) (apart limit : ℕ) → (short && ltb apart limit) ≡ true → (short ≡ true) × (apart < limit)
both true apart limit h = (refl, grind (arith, nat_tests))
both false apart limit h = absurd (true≢false (sym h))

farther : (short : Bool) (apart limit less : ℕ) → less ≤ limit → (short && ltb apart limit) ≡ false → (short && ltb apart less) ≡ false
farther true apart limit less h f = grind (arith, nat_tests)
farther false apart limit less h f = refl

above : (short : Bool) (apart limit : ℕ) → limit ≤ apart → (short && ltb apart limit) ≡ false
above true apart limit h = grind (arith, nat_tests)
above false apart limit h = refl

near-enough : (short : Bool) (apart limit : ℕ) → short ≡ true → apart < limit → (short && ltb apart limit) ≡ true
near-enough true apart limit s h = grind (arith, nat_tests)
near-enough false apart limit s h = absurd (true≢false (sym s))

-- the first name is nearer, or one of those after it
first-nearer : (word : List ℕ) (limit : ℕ) (name : List ℕ) (names : List (List ℕ)) (o : Option (List ℕ)) → is_nearer word limit name ≡ true → IsNearestBelow word (distance word name) names o
    → IsNearestBelow word limit (name ∷ names) (option_or o (Some name))
first-nearer word limit name names None h is = ([], names, refl, h, tt, is)
first-nearer word limit name names (Some other) h is =
    let own = both (leb (length name) 16) (distance word name) limit h in
    let its = both (leb (length other) 16) (distance word other) (distance word name) is.3 in
    let less : distance word other < limit = omega (arith, own.1, its.1) in (
      name ∷ is.0,
      is.1,
      ap (λ ns. name ∷ ns) is.2,
      near-enough (leb (length other) 16) (distance word other) limit its.0 less,
      (above (leb (length name) 16) (distance word name) (distance word other + 1) (omega (arith, its.1)), is.4),
      is.5,
    )

not-nearer : (word : List ℕ) (limit : ℕ) (name : List ℕ) (names : List (List ℕ)) (o : Option (List ℕ)) → is_nearer word limit name ≡ false → IsNearestBelow word limit names o
    → IsNearestBelow word limit (name ∷ names) o
not-nearer word limit name names None h is = (h, is)
not-nearer word limit name names (Some other) h is =
    let its = both (leb (length other) 16) (distance word other) limit is.3 in (
      name ∷ is.0,
      is.1,
      ap (λ ns. name ∷ ns) is.2,
      is.3,
      (farther (leb (length name) 16) (distance word name) limit (distance word other + 1) (omega (arith, its.1)) h, is.4),
      is.5,
    )

nearest-at : (word : List ℕ) (limit : ℕ) (name : List ℕ) (names : List (List ℕ)) (b : Bool) → is_nearer word limit name ≡ b
    → ((limit : ℕ) → IsNearestBelow word limit names (nearest_below word limit names))
    → IsNearestBelow word limit (name ∷ names) (cond b (option_or (nearest_below word (distance word name) names) (Some name)) (nearest_below word limit names))
nearest-at word limit name names true h ih = first-nearer word limit name names _ h (ih (distance word name))
nearest-at word limit name names false h ih = not-nearer word limit name names _ h (ih limit)

pub is_nearest : (word : List ℕ) (limit : ℕ) (names : List (List ℕ)) → IsNearestBelow word limit names (nearest_below word limit names)
is_nearest word limit [] = tt
is_nearest word limit (name ∷ names) = nearest-at word limit name names (is_nearer word limit name) refl (λ limit. is_nearest word limit names)
