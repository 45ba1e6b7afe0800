use Rattle.std.proofs.Common.{◌<◌, ◌≤◌, length, take}
use Rattle.walks.specs.inner.Reaches.{IsRaised}
use Rattle.walks.proofs.relaxation.raised.Given as goal

abbrev pub invariant-loop-place : goal.invariant-loop-place
invariant-loop-place l = record {
  few : l.number ≤ 2097280;
  raised : IsRaised (take l.place l.outgoing) l.interval l.numbers l.own l.number;
  via : l.own < l.number → l.via < length l.outgoing;
}
