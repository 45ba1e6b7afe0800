-- What is known once a board is closed, where what an attempt gives is left open: wins and fails say of which intervals it is a kernel, and
-- of which it is none.
use Rattle.std.specs.Prelude.{◌≡◌, ℕ, ◌+◌, ◌-◌, ◌<◌, ◌≤◌, List, [], ◌∷◌, Option, Some, None, Any, IsTrue}
use Rattle.std.specs.List.{AllZip}
use Rattle.board.specs.declared.view.View.{View}
use Rattle.board.specs.declared.view.Terms.{Terms}
use Rattle.board.specs.Rule.{Rule}
use Rattle.board.specs.Views.{is_dry}
use Rattle.loop_listings.specs.Pieces.{PiecesData, piece_count, IsCutting}
use Rattle.loop_schedules.specs.Problems.{ProblemData}
use Rattle.reports.specs.declared.entry.Entry.{Entry}
use Rattle.reports.specs.declared.entry.Found.{Found}
use Rattle.reports.specs.declared.entry.Found.TheVariants.{Won, Failed, Unsettled}
use Rattle.reports.specs.Entries.{In, ReportData, mii_at}
use Rattle.reports.specs.Gathered.{missing_in}
use Rattle.board_workers.specs.Worked.{WorkedAs}

module _ (wins fails : ℕ → ℕ → Type 0) where
  abbrev pub IsTrueFound : Found → ℕ → ℕ → Type 0
  IsTrueFound (Won k) l ii = wins l ii
  IsTrueFound (Failed c) l ii = fails l ii
  IsTrueFound _ l ii = Unit {0}

  -- an entry is true, and of an interval of a loop that is there
  pub record IsOpenEntry (ps : List ProblemData) (loops ceiling : ℕ) (e : Entry) : Type 0 where
    pub there : e.loop_number < loops
    pub from_mii : mii_at ps e.loop_number ≤ e.interval
    pub to_ceiling : e.interval ≤ mii_at ps e.loop_number + ceiling
    pub truth : IsTrueFound e.found e.loop_number e.interval

-- a loop's least interval that wins
pub record IsLeastWin (wins : ℕ → ℕ → Type 0) (ps : List ProblemData) (ceiling l ii : ℕ) : Type 0 where
  pub from_mii : mii_at ps l ≤ ii
  pub to_ceiling : ii ≤ mii_at ps l + ceiling
  pub is_win : wins l ii
  pub least : (k : ℕ) → mii_at ps l ≤ k → k < ii → wins l k → ⊥

-- that interval, or none where none wins up to the ceiling
abbrev pub IsChosen : (ℕ → ℕ → Type 0) → List ProblemData → ℕ → ℕ → Option ℕ → Type 0
IsChosen wins ps ceiling l None = (k : ℕ) → mii_at ps l ≤ k → k ≤ mii_at ps l + ceiling → wins l k → ⊥
IsChosen wins ps ceiling l (Some ii) = IsLeastWin wins ps ceiling l ii

abbrev pub tried_up : ℕ → ℕ → Option ℕ → ℕ
tried_up least ceiling None = ceiling + 1
tried_up least ceiling (Some ii) = ii + 1 - least

abbrev pub retried_up : List ProblemData → ℕ → List ReportData → ℕ → List (Option ℕ) → ℕ
retried_up ps ceiling reports l [] = 0
retried_up ps ceiling reports l (c ∷ cs) = missing_in reports l (mii_at ps l) (tried_up (mii_at ps l) ceiling c) + retried_up ps ceiling reports (l + 1) cs

pub record IsWholeReport (wins fails : ℕ → ℕ → Type 0) (ps : List ProblemData) (pieces : PiecesData) (report : ReportData) : Type 0 where
  pub same_loops : report.loops ≡ ps
  pub entries : (e : Entry) → In e report.entries → IsOpenEntry wins fails ps pieces.loops pieces.ceiling e
  pub settled : (e : Entry) → In e report.entries → e.found ≡ Unsettled → ⊥
  pub lost : report.lost ≡ 0

pub record IsSettled (wins fails : ℕ → ℕ → Type 0) (ps : List ProblemData) (pieces : PiecesData) (terms : Terms) (words : List ℕ) (views : List View) (reports : List ReportData) : Type 0 where
  pub cutting : IsCutting pieces
  pub exclusive : (l ii : ℕ) → wins l ii → fails l ii → ⊥
  pub same_loops : terms.loops ≡ pieces.loops
  pub same_pieces : terms.pieces ≡ piece_count pieces
  pub rule : Rule terms words views
  pub dry : Any (λ v. IsTrue (is_dry terms.pieces v)) views
  pub worked : AllZip (WorkedAs pieces) views reports
  pub whole : (r : ReportData) → In r reports → IsWholeReport wins fails ps pieces r
