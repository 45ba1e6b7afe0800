use Rattle.std.proofs.Common.{◌≡◌, ◌-◌, []}
use Rattle.std.specs.Prelude.{All, vec_len}
use Rattle.board.specs.Views.{blank}
use Rattle.board.specs.Boards.{IsNewPassOf}
use Rattle.board.proofs.word.WordBoard.issue.Given as goal

abbrev pub invariant-loop-made : goal.invariant-loop-made
invariant-loop-made l = record {
  table : l.seat.table_id ≡ l.self.table.shared.table_id;
  rest : l.seat.me ≡ (blank (l.self.passes - l._made), []);
  count : vec_len l.issued ≡ l._made;
  passes : All (IsNewPassOf l.self) l.issued.items;
}
