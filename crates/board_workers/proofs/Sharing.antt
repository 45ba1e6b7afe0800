-- The reports of workers on one board, once it is closed.
use Rattle.std.proofs.Common.{◌≡◌, ℕ, zero, suc, ◌+◌, ◌<◌, ◌≤◌, ⊎_elim, slice_index_or, Bool, true, false, List, [], ◌∷◌, ◌++◌, map, length, refl, ap, ◌∙◌, subst, arith}
use Rattle.std.specs.Prelude.{◌||◌, All, IsTrue}
use Rattle.std.specs.List.{AllZip, list_any}
use Rattle.std.proofs.lemmas.Bool.{cases_lt}
use Rattle.std.proofs.lemmas.List.Elements.{All-nil, All-cons}
use Rattle.std.proofs.lemmas.List.Folds.{Any-from_list_any, list_any-from_Any}
use Rattle.board.specs.declared.view.View.{View}
use Rattle.board.specs.declared.word.WordBoard.{WordBoard}
use Rattle.board.specs.declared.word.WordPass.{WordPass}
use Rattle.board.specs.Boards.{IsPassOf, view_of}
use Rattle.board.specs.Names.{terms_of}
use Rattle.board.specs.Views.{is_dry}
use Rattle.loop_schedules.specs.Problems.{ProblemData, IsProblem}
use Rattle.candidates.specs.Outcomes.{OneOutcome}
use Rattle.loop_listings.specs.Pieces.{PiecesData, IsCutting, piece_count}
use Rattle.reports.specs.Entries.{ReportData}
use Rattle.board_workers.specs.inner.Places.{IsReportOn}
use Rattle.board_workers.specs.Settled.{AreOfOneBoard, LeaveNothing}
use Rattle.board_workers.specs.Worked.{WorkedAs}
use Rattle.board_workers.proofs.Left.{left}

pub zip_push : {X Y : Type 0} (R : X → Y → Type 0) (xs : List X) (ys : List Y) (x : X) (y : Y) → AllZip R xs ys → R x y → AllZip R (xs ++ x ∷ []) (ys ++ y ∷ [])
zip_push R [] [] x y h r = (r, tt)
zip_push R [] (b ∷ ys) x y h r = absurd h
zip_push R (a ∷ xs) [] x y h r = absurd h
zip_push R (a ∷ xs) (b ∷ ys) x y h r = (h.0, zip_push R xs ys x y h.1 r)

pub zip_long : {X Y : Type 0} (R : X → Y → Type 0) (xs : List X) (ys : List Y) → AllZip R xs ys → length ys ≡ length xs
zip_long R [] [] h = refl
zip_long R [] (b ∷ ys) h = absurd h
zip_long R (a ∷ xs) [] h = absurd h
zip_long R (a ∷ xs) (b ∷ ys) h = ap suc (zip_long R xs ys h.1)

-- an item is that of its place, whatever stands for one that is not there
same_or : {X : Type 0} (xs : List X) (n : ℕ) (x y : X) → n < length xs → slice_index_or xs n x ≡ slice_index_or xs n y
same_or [] n x y near = absurd (omega arith)
same_or (z ∷ xs) zero x y near = refl
same_or (z ∷ xs) (suc n) x y near = same_or xs n x y (omega arith)

-- the first `n` items have it
abbrev pub FirstAre : {X : Type 0} → (X → Type 0) → List X → ℕ → Type 0
FirstAre {X} P xs n = (k : ℕ) (d : X) → k < n → P (slice_index_or xs k d)

pub one_more : {X : Type 0} (P : X → Type 0) (xs : List X) (n : ℕ) (x : X) → n < length xs → x ≡ slice_index_or xs n x → P x → FirstAre P xs n → FirstAre P xs (n + 1)
one_more P xs n x near is holds first k d less = ⊎_elim
    (λ (before : k < n). first k d before)
    (λ (past : n ≤ k). let same : n ≡ k = omega arith in subst (λ m. P (slice_index_or xs m d)) same (subst P (is ∙ same_or xs n x d near) holds))
    (cases_lt k n)

-- what holds of each pair holds of the first of each, and of the second
zip_first : {X Y : Type 0} (R : X → Y → Type 0) (P : X → Type 0) → ((x : X) (y : Y) → R x y → P x) → (xs : List X) (ys : List Y) → AllZip R xs ys → All P xs
zip_first R P each [] [] h = All-nil P
zip_first R P each [] (b ∷ ys) h = absurd h
zip_first R P each (a ∷ xs) [] h = absurd h
zip_first R P each (a ∷ xs) (b ∷ ys) h = All-cons P a xs (each a b h.0) (zip_first R P each xs ys h.1)

zip_second : {X Y : Type 0} (R : X → Y → Type 0) (P : Y → Type 0) → ((x : X) (y : Y) → R x y → P y) → (xs : List X) (ys : List Y) → AllZip R xs ys → All P ys
zip_second R P each [] [] h = All-nil P
zip_second R P each [] (b ∷ ys) h = absurd h
zip_second R P each (a ∷ xs) [] h = absurd h
zip_second R P each (a ∷ xs) (b ∷ ys) h = All-cons P b ys (each a b h.0) (zip_second R P each xs ys h.1)

module _ (b : WordBoard) (loops : List ProblemData) (pieces : PiecesData) (goes_on : Bool) where
  abbrev On : WordPass → ReportData → Type 0
  On = IsReportOn b loops pieces goes_on

  pub all_passes : (ps : List WordPass) (rs : List ReportData) → AllZip On ps rs → All (IsPassOf b) ps
  all_passes ps rs h = zip_first On (IsPassOf b) (λ p r on. on.of) ps rs h

  pub all_same : (ps : List WordPass) (rs : List ReportData) → AllZip On ps rs → All (λ (r : ReportData). r.loops ≡ loops) rs
  all_same ps rs h = zip_second On (λ (r : ReportData). r.loops ≡ loops) (λ p r on. on.same_loops) ps rs h

  pub all_dry : IsTrue goes_on → (ps : List WordPass) (rs : List ReportData) → AllZip On ps rs → All (λ (r : ReportData). IsTrue r.dry) rs
  all_dry t ps rs h = zip_second On (λ (r : ReportData). IsTrue r.dry) (λ p r on. on.dry t) ps rs h

  pub all_worked : (ps : List WordPass) (rs : List ReportData) → AllZip On ps rs → AllZip (WorkedAs pieces) (map view_of ps) rs
  all_worked [] [] h = tt
  all_worked [] (r ∷ rs) h = absurd h
  all_worked (p ∷ ps) [] h = absurd h
  all_worked (p ∷ ps) (r ∷ rs) h = (h.0.worked, all_worked ps rs h.1)

some_dry : (pieces : PiecesData) (views : List View) (reports : List ReportData) → AllZip (WorkedAs pieces) views reports
    → list_any (λ (r : ReportData). r.dry) reports ≡ true → list_any (λ (v : View). is_dry (piece_count pieces) v) views ≡ true
some_dry pieces [] [] w h = h
some_dry pieces [] (r ∷ rs) w h = absurd w
some_dry pieces (v ∷ vs) [] w h = absurd w
some_dry pieces (v ∷ vs) (r ∷ rs) w h =
    either_way (is_dry (piece_count pieces) v) (list_any (λ (r : ReportData). r.dry) rs) (list_any (λ (v : View). is_dry (piece_count pieces) v) vs)
    (subst (λ d. (d || list_any (λ (r : ReportData). r.dry) rs) ≡ true) w.0.dry h) (some_dry pieces vs rs w.1)
  where
    either_way : (a x y : Bool) → (a || x) ≡ true → (x ≡ true → y ≡ true) → (a || y) ≡ true
    either_way true x y h more = refl
    either_way false x y h more = more h

-- nothing is left where nothing was refused
pub leave_nothing : OneOutcome → (loops : List ProblemData) (pieces : PiecesData) → All IsProblem loops → All (λ (p : ProblemData). p.ceiling ≡ pieces.ceiling) loops → pieces.loops ≡ length loops → IsCutting pieces
    → (workers : ℕ) (reports : List ReportData) → AreOfOneBoard pieces workers reports → LeaveNothing loops reports
leave_nothing one loops pieces problems ceilings each cutting workers reports a dry whole choices are =
    (left one loops pieces (terms_of pieces.loops (piece_count pieces) workers) a.words a.views reports (record {
      problems = problems;
      ceilings = ceilings;
      each_loop = each;
      cutting = cutting;
      same_loops = refl;
      same_pieces = refl;
      rule = a.rule;
      dry = Any-from_list_any (λ (v : View). is_dry (piece_count pieces) v) a.views
          (some_dry pieces a.views reports a.worked (list_any-from_Any (λ (r : ReportData). r.dry) reports dry));
      worked = a.worked;
      whole = whole;
    }) choices are).0
