-- Lines passed one by one.
use Rattle.std.proofs.Common.{◌≡◌, ℕ, ◌+◌, List, ◌∷◌, drop, ap, sym, ◌∙◌}
use Rattle.std.proofs.lemmas.List.{drop-drop}

-- one more line
pub one_more : (lines rest more : List (List ℕ)) (passed : ℕ) (line : List ℕ) → drop passed lines ≡ rest → rest ≡ line ∷ more → drop (passed + 1) lines ≡ more
one_more lines rest more passed line from first = sym (drop-drop 1 passed lines) ∙ ap (drop 1) (from ∙ first)
