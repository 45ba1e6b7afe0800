-- Nothing is left, where an interval gives a kernel or a cause.
use Rattle.std.proofs.Common.{◌≡◌, ℕ, zero, suc, ◌+◌, ◌<◌, ◌≤◌, Bool, true, false, List, [], ◌∷◌, map, length, sym, refl, ap, ◌∙◌, subst, arith, slice_index_or}
use Rattle.std.specs.Prelude.{Option, Some, None, All, slice_get}
use Rattle.std.specs.List.{AllZip}
use Rattle.std.specs.Option.{option_map}
use Rattle.std.proofs.lemmas.Bool.{false≢true}
use Rattle.kernel.specs.declared.kernels.parts.Parts.{Parts}
use Rattle.loop_listings.specs.declared.causes.Cause.{Cause}
use Rattle.candidates.specs.declared.outcomes.Outcome.{Outcome}
use Rattle.candidates.specs.declared.outcomes.Outcome.TheVariants as given
use Rattle.loop_listings.specs.declared.choices.Choice.{Choice}
use Rattle.loop_listings.specs.declared.choices.Choice.TheVariants.{Met, Failed}
use Rattle.reports.specs.declared.entry.Entry.{Entry}
use Rattle.reports.specs.declared.entry.Found.{Found}
use Rattle.reports.specs.declared.entry.Found.TheVariants as found
use Rattle.loop_schedules.specs.Problems.{ProblemData, IsProblem, mii_of}
use Rattle.candidates.specs.Outcomes.{GivesKernel, FailsBy, OneOutcome}
use Rattle.candidates.specs.Choices.{IsChoice}
use Rattle.reports.specs.Entries.{In, ReportData, IsEntry, IsTrueAt, HasNoRefusal, mii_at}
use Rattle.reports.specs.Gathered.{tried, missing_in, retried_from}
use Rattle.board_workers.specs.Settled.{IsWorkedOut, met_at}
use Rattle.board_workers.proofs.Open.{IsTrueFound, IsOpenEntry, IsChosen, tried_up, retried_up, IsWholeReport, IsSettled}
use Rattle.board_workers.proofs.Nothing.{open_law, all_in}
use Rattle.reports.proofs.Least.{mii_there}
use Rattle.loop_listings.specs.Pieces.{PiecesData}
use Rattle.board.specs.declared.view.View.{View}
use Rattle.board.specs.declared.view.Terms.{Terms}
use Rattle.board.specs.Rule.{least_of}
use Rattle.std.proofs.Common.{add-zero, zero-add, ◌≢◌}
use Rattle.std.proofs.lemmas.Option.{slice_get_within, slice_get-map, same_Some}

-- the loop of that number gives a kernel at the interval
abbrev pub wins_at : List ProblemData → ℕ → ℕ → Type 0
wins_at [] l ii = ⊥
wins_at (p ∷ ps) zero ii = (mii_of p ≤ ii) × ((kernel : Parts) × GivesKernel p ii kernel)
wins_at (p ∷ ps) (suc l) ii = wins_at ps l ii

-- it gives none
abbrev pub fails_at : List ProblemData → ℕ → ℕ → Type 0
fails_at [] l ii = ⊥
fails_at (p ∷ ps) zero ii = (mii_of p ≤ ii) × ((cause : Cause) × FailsBy p ii cause)
fails_at (p ∷ ps) (suc l) ii = fails_at ps l ii

abbrev is_met : Outcome → Bool
is_met (given.Met k) = true
is_met (given.Failed c) = false

exclusive : (one : OneOutcome) (ps : List ProblemData) (l ii : ℕ) → All IsProblem ps → wins_at ps l ii → fails_at ps l ii → ⊥
exclusive one [] l ii are w f = w
exclusive one (p ∷ ps) zero ii are w f = false≢true (ap is_met (one p ii (given.Failed f.1.0) (given.Met w.1.0) (are 0 p (omega arith)) w.0 f.1.1 w.1.1))
exclusive one (p ∷ ps) (suc l) ii are w f = exclusive one ps l ii (λ k d near. are (suc k) d (omega arith)) w f

-- an entry is one of the open form
truth_of : (ps : List ProblemData) (l ii : ℕ) (f : Found) (p : ProblemData) → l < length ps → mii_of (slice_index_or ps l p) ≤ ii → IsTrueAt (slice_index_or ps l p) ii f → IsTrueFound (wins_at ps) (fails_at ps) f l ii
truth_of [] l ii f p near low t = absurd (omega arith)
truth_of (q ∷ ps) zero ii (found.Won k) p near low t = (low, (k.value, t))
truth_of (q ∷ ps) zero ii (found.Failed c) p near low t = (low, (c, t))
truth_of (q ∷ ps) zero ii found.Beaten p near low t = tt
truth_of (q ∷ ps) zero ii found.Unsettled p near low t = tt
truth_of (q ∷ ps) (suc l) ii (found.Won k) p near low t = truth_of ps l ii (found.Won k) p (omega arith) low t
truth_of (q ∷ ps) (suc l) ii (found.Failed c) p near low t = truth_of ps l ii (found.Failed c) p (omega arith) low t
truth_of (q ∷ ps) (suc l) ii found.Beaten p near low t = tt
truth_of (q ∷ ps) (suc l) ii found.Unsettled p near low t = tt

abbrev nothing_there : List (Option ℕ)
nothing_there = []

some_in : (ps : List ProblemData) (l : ℕ) → l < length ps → ProblemData
some_in [] l near = absurd (omega arith)
some_in (p ∷ ps) l near = p

later : (p : ProblemData) (ps : List ProblemData) (ceiling l : ℕ) (o : Option ℕ) → IsChosen (wins_at ps) ps ceiling l o → IsChosen (wins_at (p ∷ ps)) (p ∷ ps) ceiling (suc l) o
later p ps ceiling l None h = h
later p ps ceiling l (Some ii) h = record { from_mii = h.from_mii; to_ceiling = h.to_ceiling; is_win = h.is_win; least = h.least }

first_chosen : (p : ProblemData) (ps : List ProblemData) (ceiling : ℕ) (c : Choice) → p.ceiling ≡ ceiling → IsChoice p c → IsChosen (wins_at (p ∷ ps)) (p ∷ ps) ceiling 0 (met_at c)
first_chosen p ps ceiling (Met ii kernel) same h =
    record { from_mii = h.from_first; to_ceiling = subst (λ k. ii ≤ mii_of p + k) same h.to_last; is_win = (h.from_first, (kernel, h.is_given)); least = λ k low less w. h.least k w.1.0 low less w.1.1 }
first_chosen p ps ceiling (Failed cause) same h = λ k low high w. h.none k w.1.0 low (omega arith) w.1.1

chosen_at : (ps : List ProblemData) (cs : List Choice) (ceiling l : ℕ) (o : Option ℕ) → All (λ (p : ProblemData). p.ceiling ≡ ceiling) ps → AllZip IsChoice ps cs → slice_get (map met_at cs) l ≡ Some o
    → IsChosen (wins_at ps) ps ceiling l o
chosen_at [] [] ceiling l o same h is = absurd (none_some l o is)
  where
    none_some : (l : ℕ) (o : Option ℕ) → slice_get nothing_there l ≡ Some o → ⊥
    none_some l o is = let k = slice_get_within nothing_there l o is in omega arith
chosen_at [] (c ∷ cs) ceiling l o same h is = absurd h
chosen_at (p ∷ ps) [] ceiling l o same h is = absurd h
chosen_at (p ∷ ps) (c ∷ cs) ceiling zero o same h is = subst (IsChosen (wins_at (p ∷ ps)) (p ∷ ps) ceiling 0) (same_Some (met_at c) o is) (first_chosen p ps ceiling c (same 0 p (omega arith)) h.0)
chosen_at (p ∷ ps) (c ∷ cs) ceiling (suc l) o same h is = later p ps ceiling l o (chosen_at ps cs ceiling l o (λ k d near. same (suc k) d (omega arith)) h.1 is)

same_tried : (p : ProblemData) (ceiling : ℕ) (c : Choice) → p.ceiling ≡ ceiling → tried_up (mii_of p) ceiling (met_at c) ≡ tried p c
same_tried p ceiling (Met ii kernel) same = refl
same_tried p ceiling (Failed cause) same = ap (λ k. k + 1) (sym same)

same_retried : (qs : List ProblemData) (ceiling : ℕ) (reports : List ReportData) (l : ℕ) (ps : List ProblemData) (cs : List Choice) → ((k : ℕ) → k < length ps → mii_at qs (l + k) ≡ mii_at ps k)
    → All (λ (p : ProblemData). p.ceiling ≡ ceiling) ps → AllZip IsChoice ps cs → retried_up qs ceiling reports l (map met_at cs) ≡ retried_from reports l ps cs
same_retried qs ceiling reports l [] [] each same h = refl
same_retried qs ceiling reports l [] (c ∷ cs) each same h = absurd h
same_retried qs ceiling reports l (p ∷ ps) [] each same h = absurd h
same_retried qs ceiling reports l (p ∷ ps) (c ∷ cs) each same h =
    let least : mii_at qs l ≡ mii_of p = subst (λ m. mii_at qs m ≡ mii_of p) (add-zero l) (each 0 (omega arith)) in
    let here : missing_in reports l (mii_at qs l) (tried_up (mii_at qs l) ceiling (met_at c)) ≡ missing_in reports l (mii_of p) (tried p c)
    = ap (λ m. missing_in reports l m (tried_up m ceiling (met_at c))) least ∙ ap (missing_in reports l (mii_of p)) (same_tried p ceiling c (same 0 p (omega arith))) in
    let rest = same_retried qs ceiling reports (l + 1) ps cs (λ k near. subst (λ m. mii_at qs m ≡ mii_at ps k) (shift l k) (each (suc k) (omega arith))) (λ k d near. same (suc k) d (omega arith)) h.1 in
    omega arith
  where
    shift : (a k : ℕ) → a + suc k ≡ a + 1 + k
    shift a k = omega arith

zip_length : (ps : List ProblemData) (cs : List Choice) → AllZip IsChoice ps cs → length (map met_at cs) ≡ length ps
zip_length [] [] h = refl
zip_length [] (c ∷ cs) h = absurd h
zip_length (p ∷ ps) [] h = absurd h
zip_length (p ∷ ps) (c ∷ cs) h = let r = zip_length ps cs h.1 in omega arith

get_map : {X Y : Type 0} (f : X → Y) (xs : List X) (l : ℕ) (x : X) → slice_get xs l ≡ Some x → slice_get (map f xs) l ≡ Some (f x)
get_map f xs l x is = slice_get-map f xs l ∙ ap (option_map f) is

module _ (one : OneOutcome) (loops : List ProblemData) (pieces : PiecesData) (terms : Terms) (words : List ℕ) (views : List View) (reports : List ReportData)
    (h : IsWorkedOut loops pieces terms words views reports) where
  open_entry : (e : Entry) → IsEntry loops e → IsOpenEntry (wins_at loops) (fails_at loops) loops pieces.loops pieces.ceiling e
  open_entry e is =
      let l : ℕ = e.loop_number in
      let p : ProblemData = some_in loops l is.there in
      let of_loop = is.of_loop p in
      let least : mii_of (slice_index_or loops l p) ≡ mii_at loops l = mii_there loops l p is.there in
      let high : e.interval ≤ mii_of (slice_index_or loops l p) + (slice_index_or loops l p).ceiling = of_loop.to_last in
      let top : (slice_index_or loops l p).ceiling ≡ pieces.ceiling = h.ceilings l p is.there in
      record {
        there = subst (λ n. l < n) (sym h.each_loop) is.there;
        from_mii = subst (λ m. m ≤ e.interval) least of_loop.from_mii;
        to_ceiling = subst (λ m. e.interval ≤ m + pieces.ceiling) least (subst (λ c. e.interval ≤ mii_of (slice_index_or loops l p) + c) top high);
        truth = truth_of loops l e.interval e.found p is.there of_loop.from_mii of_loop.truth;
      }

  whole_report : (r : ReportData) → In r reports → IsWholeReport (wins_at loops) (fails_at loops) loops pieces r
  whole_report r at =
      let w : HasNoRefusal loops r = all_in (HasNoRefusal loops) r reports h.whole at in
      record {
        same_loops = w.same_loops;
        entries = λ e is. open_entry e (all_in (IsEntry loops) e r.entries w.entries is);
        settled = λ e is. all_in (λ (x : Entry). x.found ≢ found.Unsettled) e r.entries w.settled is;
        lost = w.lost;
      }

  settled_all : IsSettled (wins_at loops) (fails_at loops) loops pieces terms words views reports
  settled_all = record {
    cutting = h.cutting;
    exclusive = λ l ii w f. exclusive one loops l ii h.problems w f;
    same_loops = h.same_loops;
    same_pieces = h.same_pieces;
    rule = h.rule;
    dry = h.dry;
    worked = h.worked;
    whole = whole_report;
  }

  pub left : (choices : List Choice) → AllZip IsChoice loops choices
      → (retried_from reports 0 loops choices ≡ 0) × ((l : ℕ) (choice : Choice) → slice_get choices l ≡ Some choice → least_of words l ≡ met_at choice)
  left choices are =
      let law = open_law (wins_at loops) (fails_at loops) loops pieces terms words views reports settled_all (map met_at choices) (zip_length loops choices are ∙ sym h.each_loop)
      (λ l o is. chosen_at loops choices pieces.ceiling l o h.ceilings are is) in (
        sym (same_retried loops pieces.ceiling reports 0 loops choices (λ k near. ap (mii_at loops) (zero-add k)) h.ceilings are) ∙ law.0,
        λ l choice is. law.1 l (met_at choice) (get_map met_at choices l choice is),
      )
