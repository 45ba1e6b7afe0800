-- The name that is nearest to a word.
use Rattle.std.specs.Prelude.{◌≡◌, ℕ, ◌+◌, ◌/◌, ◌++◌, nat_le, nat_lt, ◌&&◌, min, Bool, true, false, if◌then◌else◌, nat_eq, List, [], ◌∷◌, length, Option, Some, None}
use Rattle.std.specs.List.{AllByRecursion}
use Rattle.std.specs.Option.{option_or}
use Rattle.strsim.specs.Edits.{levenshtein_row}
use Rattle.machine_data.specs.declared.limits.TheConstants.{MAX_NAME}

-- how many bytes have to be put in, left out or replaced to make one of the other
abbrev pub distance : List ℕ → List ℕ → ℕ
distance word name = levenshtein_row nat_eq word name (length name)

-- the least distance that is too far: one above a third of the word's length rounded up, and at most its length
abbrev pub first_too_far : List ℕ → ℕ
first_too_far word = if nat_lt 25 (length word) then 0 else min (length word) ((length word + 2) / 3 + 1)

-- a name has at most 16 bytes, and is nearer to a word than this
abbrev pub is_nearer : List ℕ → ℕ → List ℕ → Bool
is_nearer word limit name = nat_le (length name) MAX_NAME && nat_lt (distance word name) limit

-- the first of the names with the least distance, where it is below a limit
abbrev pub nearest_below : List ℕ → ℕ → List (List ℕ) → Option (List ℕ)
nearest_below word limit [] = None
nearest_below word limit (name ∷ names) =
    if is_nearer word limit name then option_or (nearest_below word (distance word name) names) (Some name) else nearest_below word limit names

abbrev pub nearest : List ℕ → List (List ℕ) → Option (List ℕ)
nearest word names = nearest_below word (first_too_far word) names

-- this is the answer: a name near enough, where none before it is as near and none after it nearer; or none, where none is near enough
abbrev pub IsNearestBelow : List ℕ → ℕ → List (List ℕ) → Option (List ℕ) → Type 0
IsNearestBelow word limit names None = AllByRecursion (λ other. is_nearer word limit other ≡ false) names
IsNearestBelow word limit names (Some name) =
    (before : List (List ℕ)) × (after : List (List ℕ)) × (names ≡ before ++ name ∷ after) × (is_nearer word limit name ≡ true)
    × AllByRecursion (λ other. is_nearer word (distance word name + 1) other ≡ false) before
    × AllByRecursion (λ other. is_nearer word (distance word name) other ≡ false) after

abbrev pub IsNearest : List ℕ → List (List ℕ) → Option (List ℕ) → Type 0
IsNearest word names name = IsNearestBelow word (first_too_far word) names name
