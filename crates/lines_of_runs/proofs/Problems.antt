-- Prepared loops and their rows.
use Rattle.std.proofs.Common.{◌≡◌, ◌<◌, ℕ, zero, suc, List, [], ◌∷◌, ◌++◌, length, get_or, map, refl, ap, arith}
use Rattle.std.specs.List.{AllZip, flat_map, zip}
use Rattle.loop_data.specs.Loops.{LoopData}
use Rattle.loop_schedules.specs.Problems.{ProblemData}
use Rattle.loop_listings.specs.declared.listings.Row as row
use Rattle.lines_of_runs.specs.Runs.{choice_lines, told_lines}

-- the loops of problems
abbrev pub loops_of : List ProblemData → List LoopData
loops_of problems = map (λ (p : ProblemData). p.loop) problems

-- the lines of problems are those of their loops
pub told_problems : (trip high : ℕ) (problems : List ProblemData) (rows : List row.Row)
    → flat_map (λ (pair : ProblemData × row.Row). choice_lines trip high pair.0.loop pair.1 pair.1.choice) (zip problems rows) ≡ told_lines trip high (loops_of problems) rows
told_problems trip high [] rows = refl
told_problems trip high (p ∷ problems) [] = refl
told_problems trip high (p ∷ problems) (r ∷ rows) = ap (λ (t : List ℕ). choice_lines trip high p.loop r r.choice ++ t) (told_problems trip high problems rows)

-- what is so of each pair is so of the two at an index
pub all_zip_at : {A B : Type 0} (R : A → B → Type 0) (xs : List A) (ys : List B) (i : ℕ) (d : A) (e : B) → AllZip R xs ys → i < length ys → R (get_or xs i d) (get_or ys i e)
all_zip_at R [] [] i d e h few = absurd (omega (arith, few))
all_zip_at R [] (y ∷ ys) i d e h few = absurd h
all_zip_at R (x ∷ xs) [] i d e h few = absurd h
all_zip_at R (x ∷ xs) (y ∷ ys) zero d e h few = h.0
all_zip_at R (x ∷ xs) (y ∷ ys) (suc i) d e h few = all_zip_at R xs ys i d e h.1 (omega (arith, few))
