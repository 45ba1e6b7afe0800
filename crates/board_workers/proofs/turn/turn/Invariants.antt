use Rattle.std.proofs.Common.{◌≡◌, ◌+◌, ◌-◌, ◌≤◌}
use Rattle.board_workers.proofs.Turning.{Halfway}
use Rattle.board_workers.proofs.turn.turn.Given as goal

abbrev pub invariant-loop-above : goal.invariant-loop-above
invariant-loop-above g l = g.B.Board.is_of l.board l.pass × (l.report.loops ≡ l.fn.report.loops) × (l.piece.end ≤ l.report.room + l.above)
    × (g.B.Board.dry l.pass ≡ g.B.Board.dry l.fn.pass) × (l.report.dry ≡ l.fn.report.dry)
    × Halfway g.B.Board.tells (g.B.Board.view l.fn.pass) (g.B.Board.view l.pass) l.piece.loop_number l.piece.start (l.above - l.piece.start) l.won l.fn.report l.report
    × (l.trials ≡ l.initial.trials)
