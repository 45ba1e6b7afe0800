use Rattle.std.proofs.Common.{◌≡◌, ℕ, List, take}
use Rattle.std.specs.List.{list_any}
use Rattle.machine_data.specs.Opcodes.{same_word}
use Rattle.problems.specs.inner.Seen.{is_seen}
use Rattle.problems.specs.Faults.{repeat_fault}
use Rattle.problems.proofs.faults.Among.{IsLeft}
use Rattle.problems.proofs.checking.names.first_repeated.Given as goal

abbrev pub invariant-loop-number : goal.invariant-loop-number
invariant-loop-number l = record {
  left : IsLeft (repeat_fault l.part l.names) l.names l.number;
  seen : (q : List ℕ) → is_seen l.seen q ≡ list_any (same_word q) (take l.number l.names);
}
