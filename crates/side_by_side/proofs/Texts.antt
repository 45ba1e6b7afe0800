-- What is told of the loops of a text in parts, put together.
use Rattle.std.proofs.Common.{◌≡◌, ◌∙◌, ℕ, ◌+◌, ◌≤◌, ◌==◌, Bool, false, ◌||◌, List, [], ◌∷◌, ◌++◌, length, refl, sym, ap, ap₂, subst, arith, append_assoc}
use Rattle.std.specs.Prelude.{cond, codes, ◌&&◌, nat_lt, Result, Ok, Vec}
use Rattle.std.specs.Borrow.{Bor}
use Rattle.std.specs.Fn.{FnReturns}
use Rattle.std.specs.Global.{Global}
use Rattle.std.specs.List.{AllZip, flat_map, list_any}
use Rattle.std.proofs.lemmas.Bool.Decides.{nat_tests}
use Rattle.std.proofs.lemmas.List.Concat.{flat_map-append}
use Rattle.std.proofs.lemmas.List.Folds.{list_any-append}
use Rattle.std.proofs.lemmas.List.Sums.{sum_by-append, sum_by-cons}
use Rattle.machine.specs.Machines.{MachineData}
use Rattle.graph.specs.Units.{first_lacking}
use Rattle.reader_faults.specs.declared.loops.LoopFault.{LoopFault}
use Rattle.loop_data.specs.Loops.{LoopData}
use Rattle.loop_schedules.specs.Problems.{ProblemData}
use Rattle.candidates.specs.Choices.{IsChoice}
use Rattle.loop_listings.specs.Listings.{ListingData, is_failed, is_met, listing_of, listing_row, listing_rows}
use Rattle.loop_listings.specs.Texts.{counts_line, has_outs, number_failed, number_met, row_text, version_text}
use Rattle.loop_listings.specs.declared.choices.Choice.{Choice}
use Rattle.loop_listings.specs.declared.choices.Choice.TheVariants.{Failed, Met}
use Rattle.loop_listings.specs.declared.listings.Row.{Row}
use Rattle.file_faults.specs.Answers.{AnswersIn}
use Rattle.candidates.specs.Files.{ArePrepared, ListsProblems}
use Rattle.candidates.proofs.Listed.{prepared_long}
use Rattle.written.specs.Written.{Written}
use Rattle.writing.specs.Words.{last_line}
use Rattle.run_printouts.specs.Run.{IsRunText, choice_lines, told_lines}
use Rattle.printouts.specs.Schedule.{IsListingText, are_met}
use Rattle.lines_of_runs.proofs.Problems.{loops_of}
use Rattle.printouts.proofs.Told.{told_listing}
use Rattle.run_printouts.proofs.Told.{told_run}
use Rattle.workers.specs.Told.{AreToldApart, Group, IsPart, IsTold, Teller, choices_of, problems_of}
use Rattle.workers.specs.declared.pieces.Told.{Told}
use Rattle.workers.specs.declared.pieces.Told.TheVariants.{Apart, Whole}
use Rattle.side_by_side.specs.declared.parts.told.ToldLoops.{ToldLoops}
use Rattle.side_by_side.specs.inner.Told.{IsCounted, last_told, number_failed_told, number_met_told, number_told, outs_of, text_of_told, version_if}
use Rattle.side_by_side.proofs.Answered.{right_gives, right_more}
use Rattle.shared_runs.proofs.Joining.{rows_long}
use Rattle.side_by_side.proofs.Listing.{listed}

-- the rows of a group
abbrev rows_of : Group → List Row
rows_of group = listing_rows group.0 group.1

pub rows_append : (ps qs : List ProblemData) (cs ds : List Choice) → AllZip IsChoice ps cs → listing_rows (ps ++ qs) (cs ++ ds) ≡ listing_rows ps cs ++ listing_rows qs ds
rows_append [] qs [] ds h = refl
rows_append [] qs (c ∷ cs) ds h = absurd h
rows_append (p ∷ ps) qs [] ds h = absurd h
rows_append (p ∷ ps) qs (c ∷ cs) ds h = ap (λ (rs : List Row). listing_row p c ∷ rs) (rows_append ps qs cs ds h.1)

zip_append : {A B : Type 0} (R : A → B → Type 0) (xs us : List A) (ys vs : List B) → AllZip R xs ys → AllZip R us vs → AllZip R (xs ++ us) (ys ++ vs)
zip_append R [] us [] vs h k = k
zip_append R [] us (y ∷ ys) vs h k = absurd h
zip_append R (x ∷ xs) us [] vs h k = absurd h
zip_append R (x ∷ xs) us (y ∷ ys) vs h k = (h.0, zip_append R xs us ys vs h.1 k)

-- counts of rows

abbrev met_one : Row → ℕ
met_one row = cond (is_met row.choice) 1 0

abbrev failed_one : Row → ℕ
failed_one row = cond (is_failed row.choice) 1 0

one_each : (choice : Choice) → cond (is_met choice) 1 0 + cond (is_failed choice) 1 0 ≡ 1
one_each (Met ii kernel) = refl
one_each (Failed cause) = refl

pub both_all : (rows : List Row) → number_met rows + number_failed rows ≡ length rows
both_all [] = refl
both_all (r ∷ rows) =
    let met = sum_by-cons met_one r rows in
    let failed = sum_by-cons failed_one r rows in
    let one = one_each r.choice in
    let rest = both_all rows in
    omega (arith, met, failed, one, rest)

none_failed : (choice : Choice) (rest : ℕ) (all : Bool) → all ≡ (rest == 0) → (is_met choice && all) ≡ (cond (is_failed choice) 1 0 + rest == 0)
none_failed (Met ii kernel) rest all h = h ∙ ap (λ (n : ℕ). n == 0) (omega arith)
none_failed (Failed cause) rest all h = one_more rest
  where
    one_more : (rest : ℕ) → false ≡ (1 + rest == 0)
    one_more rest = grind (arith, nat_tests)

pub met_all : (rows : List Row) → are_met rows ≡ (number_failed rows == 0)
met_all [] = refl
met_all (r ∷ rows) = none_failed r.choice (number_failed rows) (are_met rows) (met_all rows) ∙ ap (λ (n : ℕ). n == 0) (sym (sum_by-cons failed_one r rows))

-- a group with what is told of it
pub record IsToldGroup (text : List ProblemData → List Choice → List ℕ) (group : Group) (part : ToldLoops) : Type 0 where
  pub chosen : AllZip IsChoice group.0 group.1
  pub is_text : part.text.items ≡ text group.0 group.1
  pub counted : IsCounted (listing_rows group.0 group.1) part

module _ (text : List ProblemData → List Choice → List ℕ) where
  pub chosen_all : (groups : List Group) (parts : List ToldLoops) → AllZip (IsToldGroup text) groups parts → AllZip IsChoice (problems_of groups) (choices_of groups)
  chosen_all [] [] h = tt
  chosen_all [] (t ∷ ts) h = absurd h
  chosen_all (x ∷ xs) [] h = absurd h
  chosen_all (x ∷ xs) (t ∷ ts) h = zip_append IsChoice x.0 (problems_of xs) x.1 (choices_of xs) h.0.chosen (chosen_all xs ts h.1)

  pub number_met_all : (groups : List Group) (parts : List ToldLoops) → AllZip (IsToldGroup text) groups parts → number_met_told parts ≡ number_met (listing_rows (problems_of groups) (choices_of groups))
  number_met_all [] [] h = refl
  number_met_all [] (t ∷ ts) h = absurd h
  number_met_all (x ∷ xs) [] h = absurd h
  number_met_all (x ∷ xs) (t ∷ ts) h =
      sum_by-cons (λ (part : ToldLoops). part.met) t ts ∙ ap₂ (λ (a b : ℕ). a + b) h.0.counted.met (number_met_all xs ts h.1)
      ∙ sym (sum_by-append met_one (rows_of x) (listing_rows (problems_of xs) (choices_of xs)))
      ∙ ap number_met (sym (rows_append x.0 (problems_of xs) x.1 (choices_of xs) h.0.chosen))

  pub number_failed_all : (groups : List Group) (parts : List ToldLoops) → AllZip (IsToldGroup text) groups parts → number_failed_told parts ≡ number_failed (listing_rows (problems_of groups) (choices_of groups))
  number_failed_all [] [] h = refl
  number_failed_all [] (t ∷ ts) h = absurd h
  number_failed_all (x ∷ xs) [] h = absurd h
  number_failed_all (x ∷ xs) (t ∷ ts) h =
      sum_by-cons (λ (part : ToldLoops). part.failed) t ts ∙ ap₂ (λ (a b : ℕ). a + b) h.0.counted.failed (number_failed_all xs ts h.1)
      ∙ sym (sum_by-append failed_one (rows_of x) (listing_rows (problems_of xs) (choices_of xs)))
      ∙ ap number_failed (sym (rows_append x.0 (problems_of xs) x.1 (choices_of xs) h.0.chosen))

  outs_all : (groups : List Group) (parts : List ToldLoops) → AllZip (IsToldGroup text) groups parts → list_any outs_of parts ≡ has_outs (listing_rows (problems_of groups) (choices_of groups))
  outs_all [] [] h = refl
  outs_all [] (t ∷ ts) h = absurd h
  outs_all (x ∷ xs) [] h = absurd h
  outs_all (x ∷ xs) (t ∷ ts) h =
      ap₂ (λ (a b : Bool). a || b) h.0.counted.outs (outs_all xs ts h.1)
      ∙ sym (list_any-append (λ (row : Row). nat_lt 0 row.outs) (rows_of x) (listing_rows (problems_of xs) (choices_of xs)))
      ∙ ap has_outs (sym (rows_append x.0 (problems_of xs) x.1 (choices_of xs) h.0.chosen))

  -- there are as many as loops
  pub number_all : (groups : List Group) (parts : List ToldLoops) → AllZip (IsToldGroup text) groups parts → number_told parts ≡ length (problems_of groups)
  number_all groups parts h =
      let rows = listing_rows (problems_of groups) (choices_of groups) in
      ap₂ (λ (a b : ℕ). a + b) (number_met_all groups parts h) (number_failed_all groups parts h) ∙ both_all rows ∙ rows_long (problems_of groups) (choices_of groups) (chosen_all groups parts h)

  pub last_all : (groups : List Group) (parts : List ToldLoops) → AllZip (IsToldGroup text) groups parts → last_told parts ≡ counts_line (listing_rows (problems_of groups) (choices_of groups))
  last_all groups parts h =
      let rows = listing_rows (problems_of groups) (choices_of groups) in
      let met = number_met_all groups parts h in
      let failed = number_failed_all groups parts h in
      ap₂ (λ (a b : ℕ). last_line (codes "loops ") (a + b) a b) met failed ∙ ap (λ (n : ℕ). last_line (codes "loops ") n (number_met rows) (number_failed rows)) (both_all rows)

  pub met_told : (groups : List Group) (parts : List ToldLoops) → AllZip (IsToldGroup text) groups parts → (number_failed_told parts == 0) ≡ are_met (listing_rows (problems_of groups) (choices_of groups))
  met_told groups parts h = ap (λ (n : ℕ). n == 0) (number_failed_all groups parts h) ∙ sym (met_all (listing_rows (problems_of groups) (choices_of groups)))

  -- the texts of all groups, where that of two is the one after the other
  pub texts_all : ((ps qs : List ProblemData) (cs ds : List Choice) → AllZip IsChoice ps cs → text (ps ++ qs) (cs ++ ds) ≡ text ps cs ++ text qs ds) → text [] [] ≡ []
      → (groups : List Group) (parts : List ToldLoops) → AllZip (IsToldGroup text) groups parts → flat_map text_of_told parts ≡ text (problems_of groups) (choices_of groups)
  texts_all more none [] [] h = sym none
  texts_all more none [] (t ∷ ts) h = absurd h
  texts_all more none (x ∷ xs) [] h = absurd h
  texts_all more none (x ∷ xs) (t ∷ ts) h =
      ap₂ (λ (a b : List ℕ). a ++ b) h.0.is_text (texts_all more none xs ts h.1) ∙ sym (more x.0 (problems_of xs) x.1 (choices_of xs) h.0.chosen)

-- rows as `schedule` writes them
abbrev pub rows_text : ℕ → List ProblemData → List Choice → List ℕ
rows_text ceiling problems choices = flat_map (row_text ceiling) (listing_rows problems choices)

rows_text_more : (ceiling : ℕ) (ps qs : List ProblemData) (cs ds : List Choice) → AllZip IsChoice ps cs → rows_text ceiling (ps ++ qs) (cs ++ ds) ≡ rows_text ceiling ps cs ++ rows_text ceiling qs ds
rows_text_more ceiling ps qs cs ds h = ap (flat_map (row_text ceiling)) (rows_append ps qs cs ds h) ∙ flat_map-append (row_text ceiling) (listing_rows ps cs) (listing_rows qs ds)

-- runs as `run` writes them
abbrev pub runs_text : ℕ → ℕ → List ProblemData → List Choice → List ℕ
runs_text trip ceiling problems choices = told_lines trip ceiling (loops_of problems) (listing_rows problems choices)

runs_text_more : (trip ceiling : ℕ) (ps qs : List ProblemData) (cs ds : List Choice) → AllZip IsChoice ps cs → runs_text trip ceiling (ps ++ qs) (cs ++ ds) ≡ runs_text trip ceiling ps cs ++ runs_text trip ceiling qs ds
runs_text_more trip ceiling [] qs [] ds h = refl
runs_text_more trip ceiling [] qs (c ∷ cs) ds h = absurd h
runs_text_more trip ceiling (p ∷ ps) qs [] ds h = absurd h
runs_text_more trip ceiling (p ∷ ps) qs (c ∷ cs) ds h =
    ap (λ (t : List ℕ). choice_lines trip ceiling p.loop (listing_row p c) c ++ t) (runs_text_more trip ceiling ps qs cs ds h.1)
    ∙ sym (append_assoc (choice_lines trip ceiling p.loop (listing_row p c) c) (runs_text trip ceiling ps cs) (runs_text trip ceiling qs ds))

-- the listing of one thread of all groups
pub lists_all : (text : List ProblemData → List Choice → List ℕ) (ceiling : ℕ) (groups : List Group) (parts : List ToldLoops) → AllZip (IsToldGroup text) groups parts
    → ListsProblems ceiling (problems_of groups) (listing_of ceiling (problems_of groups) (choices_of groups))
lists_all text ceiling groups parts h = record { choices = choices_of groups; each_choice = chosen_all text groups parts h; is_listing = refl }

-- how the parts are put together
pub record JoinsRows (parts : List ToldLoops) (written : Written) : Type 0 where
  pub text : written.text ≡ (version_if (list_any outs_of parts) ++ flat_map text_of_told parts) ++ last_told parts
  pub met : written.all_met ≡ (number_failed_told parts == 0)

pub record JoinsRuns (parts : List ToldLoops) (written : Written) : Type 0 where
  pub text : written.text ≡ flat_map text_of_told parts ++ last_told parts
  pub met : written.all_met ≡ (number_failed_told parts == 0)

pub schedule_is : (machine : MachineData) (ratio ceiling : ℕ) (loops : List LoopData) (groups : List Group) (parts : List ToldLoops) (written : Written)
    → ArePrepared machine ratio ceiling loops (problems_of groups) → AllZip (IsToldGroup (rows_text ceiling)) groups parts
    → JoinsRows parts written → IsListingText ratio ceiling machine loops written
schedule_is machine ratio ceiling loops groups parts written prepared h joins =
    let listing = listing_of ceiling (problems_of groups) (choices_of groups) in
    let rows = listing.rows in
    let whole : written.text ≡ (version_text rows ++ flat_map (row_text ceiling) rows) ++ counts_line rows
    = joins.text ∙ ap₂ (λ (s t : List ℕ). s ++ t)
    (ap₂ (λ (s t : List ℕ). s ++ t) (ap version_if (outs_all (rows_text ceiling) groups parts h)) (texts_all (rows_text ceiling) (rows_text_more ceiling) refl groups parts h))
    (last_all (rows_text ceiling) groups parts h) in
    told_listing machine ratio ceiling loops (problems_of groups) listing written (listed listing written.text whole) (joins.met ∙ met_told (rows_text ceiling) groups parts h) prepared
    (lists_all (rows_text ceiling) ceiling groups parts h)

pub run_is : (trip : ℕ) (machine : MachineData) (ratio ceiling : ℕ) (loops : List LoopData) (groups : List Group) (parts : List ToldLoops) (written : Written)
    → ArePrepared machine ratio ceiling loops (problems_of groups) → AllZip (IsToldGroup (runs_text trip ceiling)) groups parts
    → JoinsRuns parts written → IsRunText trip ratio ceiling machine loops written
run_is trip machine ratio ceiling loops groups parts written prepared h joins =
    let listing = listing_of ceiling (problems_of groups) (choices_of groups) in
    told_run trip machine ratio ceiling loops (problems_of groups) listing written
    (joins.text ∙ ap₂ (λ (s t : List ℕ). s ++ t) (texts_all (runs_text trip ceiling) (runs_text_more trip ceiling) refl groups parts h) (last_all (runs_text trip ceiling) groups parts h))
    (joins.met ∙ met_told (runs_text trip ceiling) groups parts h) prepared (lists_all (runs_text trip ceiling) ceiling groups parts h)

zip_map : {A B : Type 0} (R S : A → B → Type 0) → ((x : A) (y : B) → R x y → S x y) → (xs : List A) (ys : List B) → AllZip R xs ys → AllZip S xs ys
zip_map R S f [] [] h = tt
zip_map R S f [] (y ∷ ys) h = absurd h
zip_map R S f (x ∷ xs) [] h = absurd h
zip_map R S f (x ∷ xs) (y ∷ ys) h = (f x y h.0, zip_map R S f xs ys h.1)

-- what is told of prepared loops with their listing
abbrev pub shown_rows : List ProblemData → ListingData → List ℕ
shown_rows problems listing = flat_map (row_text listing.ceiling) listing.rows

abbrev pub shown_runs : ℕ → List ProblemData → ListingData → List ℕ
shown_runs trip problems listing = told_lines trip listing.ceiling (loops_of problems) listing.rows

-- what calls give for prepared loops and their listing
module _ {F : Type 0} (g : Teller ToldLoops F) (tell : F) (shown : List ProblemData → ListingData → List ℕ) (Joins : List ToldLoops → Written → Type 0) (machine : MachineData) (ratio ceiling : ℕ) where
  abbrev pub CallsTell : Type 0
  CallsTell = (problems : Bor (List ProblemData)) (listing : Bor ListingData) (part : ToldLoops) → FnReturns g tell (problems, (listing, tt)) (Ok part)
      → (part.text.items ≡ shown problems.now listing.now) × IsCounted listing.now.rows part

  abbrev shown_of : List ProblemData → List Choice → List ℕ
  shown_of problems choices = shown problems (listing_of ceiling problems choices)

  given : CallsTell → (group : Group) (part : ToldLoops) → IsPart g tell ceiling group part → IsToldGroup shown_of group part
  given calls group part is =
      let told = is.told in
      let here = calls told.prepared told.listed part told.says in record {
        chosen = is.chosen;
        is_text = here.0 ∙ ap₂ (λ (ps : List ProblemData) (l : ListingData). shown ps l) told.shows.0 told.shows.1;
        counted = subst (λ (l : ListingData). IsCounted l.rows part) told.shows.1 here.1;
      }

  groups_told : CallsTell → (groups : List Group) (parts : List ToldLoops) → AllZip (IsPart g tell ceiling) groups parts → AllZip (IsToldGroup shown_of) groups parts
  groups_told calls groups parts h = zip_map (IsPart g tell ceiling) (IsToldGroup shown_of) (given calls) groups parts h

  few_apart : (loops : List LoopData) (parts : List ToldLoops) → CallsTell → AreToldApart g tell machine ratio ceiling loops parts → number_told parts ≤ 1024
  few_apart loops parts calls apart =
      let n = number_all shown_of apart.groups parts (groups_told calls apart.groups parts apart.told) in
      omega (arith, n, prepared_long machine ratio ceiling loops (problems_of apart.groups) apart.prepared, apart.few)

  -- parts tell of no more loops than a text has
  pub few_told : (loops : Result (List LoopData) LoopFault) (told : Told ToldLoops) (parts : Vec ToldLoops Global)
      → AnswersIn (IsTold g tell ratio ceiling machine) machine loops (Ok told) → told ≡ Apart parts → CallsTell → number_told parts.items ≤ 1024
  few_told loops told parts answers is calls =
      right_gives (IsTold g tell ratio ceiling machine) (first_lacking machine) loops (Apart parts) (number_told parts.items ≤ 1024) (λ ls apart. few_apart ls parts.items calls apart)
      (subst (λ (t : Told ToldLoops). AnswersIn (IsTold g tell ratio ceiling machine) machine loops (Ok t)) is answers)

  -- what is written of them is right
  pub written_apart : (IsWritten : List LoopData → Written → Type 0)
      → ((ls : List LoopData) (groups : List Group) (parts : List ToldLoops) (written : Written) → ArePrepared machine ratio ceiling ls (problems_of groups) → AllZip (IsToldGroup shown_of) groups parts
      → Joins parts written → IsWritten ls written)
      → (loops : Result (List LoopData) LoopFault) (told : Told ToldLoops) (parts : Vec ToldLoops Global) (written : Written)
      → AnswersIn (IsTold g tell ratio ceiling machine) machine loops (Ok told) → told ≡ Apart parts → CallsTell → Joins parts.items written → AnswersIn IsWritten machine loops (Ok written)
  written_apart IsWritten right loops told parts written answers is calls joins =
      right_more (IsTold g tell ratio ceiling machine) IsWritten (first_lacking machine) loops (Apart parts) written
      (λ ls apart. right ls apart.groups parts.items written apart.prepared (groups_told calls apart.groups parts.items apart.told) joins)
      (subst (λ (t : Told ToldLoops). AnswersIn (IsTold g tell ratio ceiling machine) machine loops (Ok t)) is answers)

  -- and so is what is written of all loops, prepared, with their listing
  pub written_whole : (IsWritten : List LoopData → Written → Type 0) (loops : Result (List LoopData) LoopFault) (told : Told ToldLoops) (prepared : Vec ProblemData Global) (listing : ListingData) (written : Written)
      → AnswersIn (IsTold g tell ratio ceiling machine) machine loops (Ok told) → told ≡ Whole prepared listing
      → ((ls : List LoopData) → ArePrepared machine ratio ceiling ls prepared.items → ListsProblems ceiling prepared.items listing → IsWritten ls written) → AnswersIn IsWritten machine loops (Ok written)
  written_whole IsWritten loops told prepared listing written answers is right =
      right_more (IsTold g tell ratio ceiling machine) IsWritten (first_lacking machine) loops (Whole prepared listing) written (λ ls whole. right ls whole.0 whole.1)
      (subst (λ (t : Told ToldLoops). AnswersIn (IsTold g tell ratio ceiling machine) machine loops (Ok t)) is answers)
