use Rattle.std.proofs.Common.{◌≡◌, ◌++◌, List}
use Rattle.std.specs.Prelude.{All, map, vec_len}
use Rattle.board.specs.declared.word.WordPass.{WordPass}
use Rattle.board.specs.Boards.{IsPassOf, view_of}
use Rattle.board.specs.inner.Together.{IsTogether}
use Rattle.board.proofs.word.WordBoard.take_in.Given as goal

abbrev pub invariant-loop-pass : goal.invariant-loop-pass
invariant-loop-pass l =
    (l.seat.table_id ≡ l.self.table.shared.table_id) × All (IsPassOf l.self) l.passes.items
    × ((done : List WordPass) × (l.fn.passes.items ≡ l.passes.items ++ done) × IsTogether l.seat.me.0 (map view_of done))

abbrev pub decreases-loop-pass : goal.decreases-loop-pass
decreases-loop-pass l = vec_len l.passes
