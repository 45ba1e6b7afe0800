use Rattle.std.proofs.Common.{◌≡◌}
use Rattle.board.specs.Boards.{IsPassOf, view_of}
use Rattle.board_threads.proofs.tests.meet.Given as goal

abbrev pub invariant-loop : goal.invariant-loop
invariant-loop l = IsPassOf l.board l.pass × ((view_of l.pass).drawn ≡ (view_of l.fn.pass).drawn)
