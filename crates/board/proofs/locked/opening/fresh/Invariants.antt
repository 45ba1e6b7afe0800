use Rattle.std.proofs.Common.{◌≡◌, false}
use Rattle.std.specs.Prelude.{All, vec_len}
use Rattle.board.proofs.locked.opening.fresh.Given as goal

abbrev pub invariant-loop-made : goal.invariant-loop-made
invariant-loop-made l = record {
  count : vec_len l.issued ≡ l._made;
  passes : All (λ p. p.dry ≡ false) l.issued.items;
}
