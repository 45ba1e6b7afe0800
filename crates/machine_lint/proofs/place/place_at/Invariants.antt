use Rattle.std.proofs.Common.{◌≡◌, ◌+◌, ◌≤◌, take}
use Rattle.machine_lint.specs.Places.{place_after}
use Rattle.machine_lint.proofs.place.place_at.Given as goal

abbrev pub invariant-loop-byte : goal.invariant-loop-byte
invariant-loop-byte l = record {
  place : l.place ≡ place_after (take l.byte-index l.before);
  line : l.place.line ≤ 1 + l.byte-index;
  column : l.place.column ≤ 1 + l.byte-index;
}
