use Rattle.std.proofs.Common.{◌≡◌, length}
use Rattle.shared_runs.specs.inner.Pieces.{ArePieces}
use Rattle.shared_runs.proofs.pieces.pieces_for_now.Given as goal

abbrev pub invariant-loop-number : goal.invariant-loop-number
invariant-loop-number l = record {
  many : length l.pieces.items ≡ l.number;
  each : ArePieces l.innermost l.after l.pieces.items;
}
