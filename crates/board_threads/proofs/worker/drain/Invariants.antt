-- Each draw so far gave a piece.
use Rattle.std.proofs.Common.{◌≡◌, length}
use Rattle.std.specs.Prelude.{IsTrue}
use Rattle.board.specs.Drawing.{DrewPieces}
use Rattle.board_threads.proofs.worker.drain.Given as goal

abbrev pub invariant-loop : goal.invariant-loop
invariant-loop g l =
    g.B.Board.is_of l.board l.pass × (l.count ≡ l.counter)
    × (IsTrue g.B.Board.tells → (length (g.B.Board.view l.pass).drawn ≡ l.count) × DrewPieces l.pieces (g.B.Board.view l.pass))
