-- Where a worker's pass lies before it works, and its pass and report afterwards.
use Rattle.std.specs.Prelude.{◌≡◌, Bool, List, Option, None, Some, IsSome, IfSome, IsTrue}
use Rattle.board.specs.declared.word.WordBoard.{WordBoard}
use Rattle.board.specs.declared.word.WordPass.{WordPass}
use Rattle.board.specs.Boards.{IsPassOf, IsNewPassOf, view_of}
use Rattle.loop_schedules.specs.Problems.{ProblemData}
use Rattle.loop_listings.specs.Pieces.{PiecesData}
use Rattle.board_workers.specs.declared.places.Place.{Place}
use Rattle.reports.specs.Entries.{ReportData}
use Rattle.board_workers.specs.Worked.{WorkedAs}

-- the place has a new pass of the board, and no report
abbrev pub IsReadyPlace : WordBoard → Place → Type 0
IsReadyPlace b p = IsSome p.pass × IfSome p.pass (IsNewPassOf b) × (p.report ≡ None)

-- a pass of the board that a worker gave back, and its report; it is dry where the worker always went on
pub record IsReportOn (b : WordBoard) (loops : List ProblemData) (pieces : PiecesData) (goes_on : Bool) (pass : WordPass) (report : ReportData) : Type 0 where
  pub of : IsPassOf b pass
  pub same_loops : report.loops ≡ loops
  pub worked : WorkedAs pieces (view_of pass) report
  pub dry : IsTrue goes_on → IsTrue report.dry

abbrev pub AreBack : WordBoard → List ProblemData → PiecesData → Bool → Option WordPass → Option ReportData → Type 0
AreBack b loops pieces goes_on (Some pass) (Some report) = IsReportOn b loops pieces goes_on pass report
AreBack b loops pieces goes_on pass report = ⊥

-- the place has such a pass and its report
abbrev pub IsDonePlace : WordBoard → List ProblemData → PiecesData → Bool → Place → Type 0
IsDonePlace b loops pieces goes_on p = AreBack b loops pieces goes_on p.pass p.report
