-- Times with alternatives, taken one by one.
use Rattle.std.proofs.Common.{◌≡◌, ◌∙◌, ◌+◌, ◌++◌, ℕ, ◌<◌, ◌≤◌, List, [], ◌∷◌, length, take, get_or, min, ap₂, sym, arith}
use Rattle.std.specs.List.{zip}
use Rattle.std.proofs.lemmas.List.{take_all, take_more}
use Rattle.std.proofs.lemmas.Slice.Zip.{get_or-zip, length-zip}

pub places_more : (made : List (ℕ × ℕ)) (times alternatives : List ℕ) (op : ℕ) → length times ≡ length alternatives → op < length times
    → made ≡ take op (zip times alternatives)
    → made ++ (get_or times op 0, get_or alternatives op 0) ∷ [] ≡ take (op + 1) (zip times alternatives)
places_more made times alternatives op same there so_far =
    let long : length (zip times alternatives) ≡ min (length times) (length alternatives) = length-zip times alternatives in
    ap₂ (λ a b. a ++ b ∷ []) so_far (sym (get_or-zip times alternatives op (0, 0) there (omega (arith, same))))
    ∙ sym (take_more (zip times alternatives) op (0, 0) (omega (arith, long, same)))

pub places_all : (made : List (ℕ × ℕ)) (times alternatives : List ℕ) (op : ℕ) → length times ≤ op
    → made ≡ take op (zip times alternatives) → made ≡ zip times alternatives
places_all made times alternatives op all so_far =
    let long : length (zip times alternatives) ≡ min (length times) (length alternatives) = length-zip times alternatives in
    so_far ∙ take_all op (zip times alternatives) (omega (arith, long))
