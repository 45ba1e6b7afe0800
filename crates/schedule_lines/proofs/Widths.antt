-- The width of a column, one more cell at a time.
use Rattle.std.proofs.Common.{◌≡◌, ℕ, ◌+◌, max, List, [], ◌∷◌, ◌++◌, length, map, ap, ◌∙◌, arith}
use Rattle.std.specs.List.{range_with_len}
use Rattle.std.proofs.lemmas.List.{map-append}
use Rattle.std.proofs.lemmas.List.FromFn.{map-range_with_len_more}
use Rattle.unit_bound.specs.Units.{greatest_of}
use Rattle.unit_bound.proofs.Tally.{greatest_of-push}
use Rattle.schedule_lines.specs.Columns.{width_of}

pub width-push : (cells : List (List ℕ)) (cell : List ℕ) → width_of (cells ++ cell ∷ []) ≡ max (width_of cells) (length cell)
width-push cells cell = ap greatest_of (map-append length cells (cell ∷ [])) ∙ greatest_of-push (map length cells) (length cell)

pub width-more : (f : ℕ → List ℕ) (head : List ℕ) (n : ℕ) → width_of (head ∷ map f (range_with_len 0 (n + 1))) ≡ max (width_of (head ∷ map f (range_with_len 0 n))) (length (f n))
width-more f head n =
    ap (λ (cells : List (List ℕ)). width_of (head ∷ cells)) (map-range_with_len_more f 0 n n (omega arith))
    ∙ width-push (head ∷ map f (range_with_len 0 n)) (f n)
