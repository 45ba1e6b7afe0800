-- The greatest number of alternatives that an operation has.
use Rattle.std.proofs.Common.{◌≡◌, ℕ, ◌+◌, ◌<◌, ◌≤◌, max, rules, List, [], ◌∷◌, length, get_or, map, take, nat_cmp, ap, ◌∙◌, arith}
use Rattle.std.specs.Ordering.{ord_max}
use Rattle.std.proofs.lemmas.List.{map_more}
use Rattle.std.proofs.lemmas.List.Elements.{All-nil, All-cons}
use Rattle.std.specs.List.{All}
use Rattle.machine_data.specs.declared.alternative.Row.{Row}
use Rattle.unit_bound.specs.Units.{greatest_of}
use Rattle.unit_bound.proofs.Tally.{greatest_of-push}

pub greater : (a b : ℕ) → ord_max nat_cmp a b ≡ max a b
greater a b = search rules

abbrev pub most_of : List (List (List Row)) → ℕ
most_of operations = greatest_of (map (λ alternatives. length alternatives) operations)

-- a loop comes to one operation more
pub most-more : (operations : List (List (List Row))) (i : ℕ) → i < length operations
    → most_of (take (i + 1) operations) ≡ max (most_of (take i operations)) (length (get_or operations i []))
most-more operations i within =
    let f : List (List Row) → ℕ = λ alternatives. length alternatives in
    ap greatest_of (map_more f operations i [] within) ∙ greatest_of-push (map f (take i operations)) (f (get_or operations i []))

-- no operation has more
pub All-most : (operations : List (List (List Row))) (most : ℕ) → most_of operations ≤ most → All (λ alternatives. length alternatives ≤ most) operations
All-most [] most h = All-nil (λ alternatives. length alternatives ≤ most)
All-most (alternatives ∷ operations) most h =
    let here : length alternatives ≤ most = omega arith in
    All-cons (λ alternatives. length alternatives ≤ most) alternatives operations here (All-most operations most (omega arith))
