use Rattle.std.proofs.Common.{◌≡◌, ◌+◌, vec_len}
use Rattle.std.specs.List.{All}
use Rattle.board.specs.Boards.{IsNewPassOf}
use Rattle.board_workers.specs.inner.Places.{IsReadyPlace}
use Rattle.board_workers.proofs.run.places_of.Given as goal

abbrev pub invariant-loop-pass : goal.invariant-loop-pass
invariant-loop-pass l = All (IsNewPassOf l._board) l.passes.items × All (IsReadyPlace l._board) l.places.items × (vec_len l.places + vec_len l.passes ≡ vec_len l.fn.passes)

abbrev pub decreases-loop-pass : goal.decreases-loop-pass
decreases-loop-pass l = vec_len l.passes
