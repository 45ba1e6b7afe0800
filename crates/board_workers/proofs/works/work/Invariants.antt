use Rattle.std.proofs.Common.{◌≡◌, ◌≤◌, false}
use Rattle.std.specs.Prelude.{IsTrue}
use Rattle.board_workers.specs.Worked.{IsUnused}
use Rattle.board_workers.proofs.Working.{WorkedSoFar}
use Rattle.board_workers.proofs.works.work.Given as goal

abbrev pub invariant-loop : goal.invariant-loop
invariant-loop g l = g.B.Board.is_of l.board l.pass × (l.report.loops ≡ l.loops) × (l.report.lost ≤ l.counter) × (l.report.dry ≡ false)
    × (g.B.Board.dry l.fn.pass ≡ false → g.B.Board.dry l.pass ≡ false)
    × (IsTrue g.B.Board.tells → (g.B.Board.view l.pass).count ≡ (g.B.Board.view l.fn.pass).count)
    × (IsTrue g.B.Board.tells → IsUnused (g.B.Board.view l.fn.pass) → WorkedSoFar l.pieces (g.B.Board.view l.pass) l.report l.counter)
