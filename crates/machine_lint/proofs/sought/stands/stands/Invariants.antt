use Rattle.std.proofs.Common.{◌≡◌, ℕ, ◌+◌, ◌<◌, ◌≤◌, false, get_or, length, take}
use Rattle.machine_lint.specs.Places.{place_after, place_at}
use Rattle.machine_lint.specs.Words.{comment_after}
use Rattle.machine_lint.specs.declared.sought.stands.Stand.{Stand}
use Rattle.machine_lint.proofs.sought.stands.stands.Given as goal

abbrev pub invariant-loop-byte : goal.invariant-loop-byte
invariant-loop-byte l = record {
  are : (at : ℕ) (d : Stand) → at < l.byte-index → get_or l.stands.items at d ≡ record { place = place_at l.text at; begun = comment_after false (take at l.text) };
  all : length l.stands.items ≡ l.byte-index;
  begun : l.begun ≡ comment_after false (take l.byte-index l.text);
  place : l.place ≡ place_after (take l.byte-index l.text);
  line : l.place.line ≤ 1 + l.byte-index;
  column : l.place.column ≤ 1 + l.byte-index;
}
