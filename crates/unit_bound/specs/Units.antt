-- The resource-constrained lower bound of the initiation interval (ResMII of B. R. Rau, HPL-94-115).
use Rattle.std.specs.Prelude.{◌≡◌, ℕ, ◌<◌, ◌≤◌, ◌==◌, max, List, [], ◌∷◌, ◌++◌, length, map, filter, count_by}
use Rattle.std.specs.List.{slice_index_or, flat_map, range_with_len}
use Rattle.machine_data.specs.declared.alternative.Row.{Row}

-- how many of the rows use a unit
abbrev pub use_of : List Row → ℕ → ℕ
use_of rows unit = count_by (λ (r : Row). r.unit == unit) rows

-- the use of the unit that the most of the rows use, 0 where there are none
abbrev pub greatest_of : List ℕ → ℕ
greatest_of [] = 0
greatest_of (n ∷ ns) = max n (greatest_of ns)

abbrev pub greatest_use : List Row → ℕ
greatest_use rows = greatest_of (map (λ (r : Row). use_of rows r.unit) rows)

-- after the rows taken so far this choice of an alternative gives a use of the most used unit that no alternative makes
-- lower, and that none before it makes as low
pub record IsBest (taken : List Row) (alternatives : List (List Row)) (choice : ℕ) : Type 0 where
  pub there : choice < length alternatives
  pub least : (other : ℕ) → other < length alternatives
      → greatest_use (taken ++ slice_index_or alternatives choice []) ≤ greatest_use (taken ++ slice_index_or alternatives other [])
  pub first : (other : ℕ) → other < choice
      → greatest_use (taken ++ slice_index_or alternatives choice []) < greatest_use (taken ++ slice_index_or alternatives other [])

-- each operation's choice, one after another, is best after the rows of the choices before it
abbrev pub AreBest : List Row → List (List (List Row)) → List ℕ → Type 0
AreBest taken [] [] = Unit {0}
AreBest taken (alternatives ∷ operations) (choice ∷ choices) =
    IsBest taken alternatives choice × AreBest (taken ++ slice_index_or alternatives choice []) operations choices
AreBest taken [] (choice ∷ choices) = ⊥
AreBest taken (alternatives ∷ operations) [] = ⊥

-- the rows of all choices
abbrev pub chosen_rows : List (List (List Row)) → List ℕ → List Row
chosen_rows [] choices = []
chosen_rows (alternatives ∷ operations) [] = []
chosen_rows (alternatives ∷ operations) (choice ∷ choices) = slice_index_or alternatives choice [] ++ chosen_rows operations choices

-- operations by increasing number of alternatives, which is 1 to 16, and of one number in their order
abbrev pub by_freedom : List (List (List Row)) → List (List (List Row))
by_freedom operations = flat_map (λ n. filter (λ alternatives. length alternatives == n) operations) (range_with_len 1 16)

-- the bound: the use of the most used unit when the operations take their best alternatives, those with the fewest first
pub record IsUnitBound (operations : List (List (List Row))) (bound : ℕ) : Type 0 where
  pub choices : List ℕ
  pub best : AreBest [] (by_freedom operations) choices
  pub is_use : bound ≡ greatest_use (chosen_rows (by_freedom operations) choices)
