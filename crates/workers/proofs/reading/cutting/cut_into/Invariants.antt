use Rattle.std.proofs.Common.{◌<◌, ◌≤◌, vec_capacity, vec_len}
use Rattle.workers.proofs.Cuts.{CutSoFar}
use Rattle.workers.proofs.reading.cutting.cut_into.Given as goal

abbrev pub invariant-loop-cut : goal.invariant-loop-cut
invariant-loop-cut l = record {
  few : vec_len l.pieces < l.cut;
  room : l.count ≤ vec_capacity l.pieces;
  cut : CutSoFar l.text l.pieces.items l.rest;
}
