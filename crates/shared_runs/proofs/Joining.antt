-- The texts of parts, one after another, are what is written of their loops.
use Rattle.std.proofs.Common.{◌≡◌, ◌∙◌, ◌<◌, ℕ, zero, suc, List, [], ◌∷◌, length, get_or, min, refl, sym, subst, ap, ap₂, arith}
use Rattle.std.specs.List.{AllZip, flat_map, zip}
use Rattle.std.proofs.lemmas.List.{get_or_default}
use Rattle.std.proofs.lemmas.Slice.Zip.{get_or-zip, length-zip}
use Rattle.loop_schedules.specs.Problems.{ProblemData}
use Rattle.loop_listings.specs.declared.listings.Row as row
use Rattle.loop_listings.specs.declared.choices.Choice.{Choice}
use Rattle.candidates.specs.Choices.{IsChoice}
use Rattle.loop_listings.specs.Listings.{ListingData, listing_rows}
use Rattle.candidates.specs.Files.{ListsProblems}
use Rattle.lines_of_runs.specs.Runs.{choice_lines, told_lines}
use Rattle.lines_of_runs.proofs.Problems.{loops_of, told_problems}
use Rattle.text_parts.specs.declared.part.Part.{Part}
use Rattle.text_parts.specs.Parts.{text_of}
use Rattle.text_parts.proofs.Pieces.{flat_same}

pub rows_long : (problems : List ProblemData) (choices : List Choice) → AllZip IsChoice problems choices → length (listing_rows problems choices) ≡ length problems
rows_long [] [] h = refl
rows_long [] (c ∷ choices) h = absurd h
rows_long (p ∷ problems) [] h = absurd h
rows_long (p ∷ problems) (c ∷ choices) h = let e = rows_long problems choices h.1 in omega (arith, e)

-- a listing has a row for each problem
pub listed_long : (ceiling : ℕ) (problems : List ProblemData) (listing : ListingData) → ListsProblems ceiling problems listing → length listing.rows ≡ length problems
listed_long ceiling problems listing is = ap (λ (l : ListingData). length l.rows) is.is_listing ∙ rows_long problems is.choices is.each_choice

-- parts that tell each problem with its row
pub told_joined : (trip ceiling : ℕ) (problems : List ProblemData) (rows : List row.Row) (parts : List Part) → length rows ≡ length problems → length parts ≡ length problems
    → ((k : ℕ) (p : ProblemData) (r : row.Row) (d : Part) → k < length problems → (get_or parts k d).text.items ≡ choice_lines trip ceiling (get_or problems k p).loop (get_or rows k r) (get_or rows k r).choice)
    → flat_map text_of parts ≡ told_lines trip ceiling (loops_of problems) rows
told_joined trip ceiling problems rows parts same long told =
    let lines = λ (pair : ProblemData × row.Row). choice_lines trip ceiling pair.0.loop pair.1 pair.1.choice in
    let pairs : length (zip problems rows) ≡ min (length problems) (length rows) = length-zip problems rows in
    flat_same lines text_of (zip problems rows) parts (omega (arith, pairs, same, long))
    (λ k pair part h. let within : k < length problems = omega (arith, pairs, same, h) in
    told k pair.0 pair.1 part within ∙ ap lines (sym (get_or-zip problems rows k pair within (omega (arith, pairs, same, h)))))
    ∙ told_problems trip ceiling problems rows

choice_at : (problems : List ProblemData) (choices : List Choice) (k : ℕ) (p : ProblemData) (r : row.Row) → AllZip IsChoice problems choices → k < length problems
    → IsChoice (get_or problems k p) (get_or (listing_rows problems choices) k r).choice
choice_at [] choices k p r h within = absurd (omega (arith, within))
choice_at (q ∷ problems) [] k p r h within = absurd h
choice_at (q ∷ problems) (c ∷ choices) zero p r h within = h.0
choice_at (q ∷ problems) (c ∷ choices) (suc k) p r h within = choice_at problems choices k p r h.1 (omega (arith, within))

-- the row of a problem has its choice
pub listed_choice : (ceiling : ℕ) (problems : List ProblemData) (listing : ListingData) (k : ℕ) (p : ProblemData) (r : row.Row) → ListsProblems ceiling problems listing
    → k < length problems → IsChoice (get_or problems k p) (get_or listing.rows k r).choice
listed_choice ceiling problems listing k p r is within =
    subst (λ (l : ListingData). IsChoice (get_or problems k p) (get_or l.rows k r).choice) (sym is.is_listing) (choice_at problems is.choices k p r is.each_choice within)

-- what is told of the problem and the row at an index
pub told_at : (trip ceiling k : ℕ) (problems : List ProblemData) (rows : List row.Row) (p d : ProblemData) (r e : row.Row) → k < length problems → k < length rows
    → p ≡ get_or problems k p → r ≡ get_or rows k r
    → choice_lines trip ceiling p.loop r r.choice ≡ choice_lines trip ceiling (get_or problems k d).loop (get_or rows k e) (get_or rows k e).choice
told_at trip ceiling k problems rows p d r e within listed is_p is_r =
    ap₂ (λ (q : ProblemData) (s : row.Row). choice_lines trip ceiling q.loop s s.choice) (is_p ∙ get_or_default problems k p d within) (is_r ∙ get_or_default rows k r e listed)
