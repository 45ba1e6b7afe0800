-- The rows of a listing, one after another.
use Rattle.std.proofs.Common.{◌≡◌, ℕ, ◌+◌, ◌<◌, List, [], ◌∷◌, ◌++◌, length, get_or, drop, sym, ap, ◌∙◌, append_assoc}
use Rattle.std.proofs.lemmas.List.{drop_more}
use Rattle.loop_schedules.specs.Problems.{ProblemData}
use Rattle.loop_listings.specs.declared.choices.Choice.{Choice}
use Rattle.loop_listings.specs.declared.listings.Row.{Row}
use Rattle.loop_listings.specs.Listings.{listing_row, listing_rows}

pub rows_more : (rows : List Row) (ps : List ProblemData) (i : ℕ) (p : ProblemData) (c : Choice) (cs : List Choice) → i < length ps → p ≡ get_or ps i p
    → (rows ++ listing_row p c ∷ []) ++ listing_rows (drop (i + 1) ps) cs ≡ rows ++ listing_rows (drop i ps) (c ∷ cs)
rows_more rows ps i p c cs within is =
    append_assoc rows (listing_row p c ∷ []) (listing_rows (drop (i + 1) ps) cs)
    ∙ ap (λ (qs : List ProblemData). rows ++ listing_rows qs (c ∷ cs)) (sym (drop_more ps i p within ∙ ap (λ (q : ProblemData). q ∷ drop (i + 1) ps) (sym is)))
