-- Where the board was worked dry and nothing was refused, nothing is left to try, and each loop's word is its interval.
use Rattle.std.specs.Prelude.{◌≡◌, ℕ, List, length, Option, Some, None, Any, IsTrue, slice_get}
use Rattle.std.specs.List.{All, AllZip}
use Rattle.board.specs.declared.view.View.{View}
use Rattle.board.specs.declared.view.Terms.{Terms}
use Rattle.board.specs.Names.{terms_of}
use Rattle.board.specs.Rule.{Rule, least_of}
use Rattle.board.specs.Views.{is_dry}
use Rattle.loop_schedules.specs.Problems.{ProblemData, IsProblem}
use Rattle.loop_listings.specs.declared.choices.Choice.{Choice}
use Rattle.loop_listings.specs.declared.choices.Choice.TheVariants.{Met, Failed}
use Rattle.loop_listings.specs.Pieces.{PiecesData, IsCutting, piece_count}
use Rattle.candidates.specs.Choices.{IsChoice}
use Rattle.reports.specs.Entries.{ReportData, HasNoRefusal}
use Rattle.reports.specs.Gathered.{retried_from}
use Rattle.board_workers.specs.Worked.{WorkedAs}

-- what is known once a board is closed over the views of workers to which nothing was refused
pub record IsWorkedOut (loops : List ProblemData) (pieces : PiecesData) (terms : Terms) (words : List ℕ) (views : List View) (reports : List ReportData) : Type 0 where
  pub problems : All IsProblem loops
  pub ceilings : All (λ (p : ProblemData). p.ceiling ≡ pieces.ceiling) loops
  pub each_loop : pieces.loops ≡ length loops
  pub cutting : IsCutting pieces
  pub same_loops : terms.loops ≡ pieces.loops
  pub same_pieces : terms.pieces ≡ piece_count pieces
  pub rule : Rule terms words views
  pub dry : Any (λ v. IsTrue (is_dry terms.pieces v)) views
  pub worked : AllZip (WorkedAs pieces) views reports
  pub whole : All (HasNoRefusal loops) reports

-- the reports of `workers` workers on one board, which was closed over all of their passes
pub record AreOfOneBoard (pieces : PiecesData) (workers : ℕ) (reports : List ReportData) : Type 0 where
  pub words : List ℕ
  pub views : List View
  pub rule : Rule (terms_of pieces.loops (piece_count pieces) workers) words views
  pub worked : AllZip (WorkedAs pieces) views reports
  pub each : length reports ≡ workers

-- where some worker found no piece left, and nothing was refused, nothing is left to try
abbrev pub LeaveNothing : List ProblemData → List ReportData → Type 0
LeaveNothing loops reports = Any (λ (r : ReportData). IsTrue r.dry) reports → All (HasNoRefusal loops) reports → (choices : List Choice) → AllZip IsChoice loops choices
    → retried_from reports 0 loops choices ≡ 0

-- the interval of a choice
abbrev pub met_at : Choice → Option ℕ
met_at (Met ii kernel) = Some ii
met_at (Failed cause) = None

abbrev pub NothingIsLeft : Type 0
NothingIsLeft = (loops : List ProblemData) (pieces : PiecesData) (terms : Terms) (words : List ℕ) (views : List View) (reports : List ReportData) (choices : List Choice)
    → IsWorkedOut loops pieces terms words views reports → AllZip IsChoice loops choices
    → (retried_from reports 0 loops choices ≡ 0)
    × ((l : ℕ) (choice : Choice) → slice_get choices l ≡ Some choice → least_of words l ≡ met_at choice)
