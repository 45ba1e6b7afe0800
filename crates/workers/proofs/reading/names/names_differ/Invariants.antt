use Rattle.std.proofs.Common.{◌≡◌, ℕ, List, take}
use Rattle.std.specs.List.{list_any}
use Rattle.machine_data.specs.Opcodes.{same_word}
use Rattle.workers.specs.inner.Pieces.{NamesDiffer, has_name}
use Rattle.workers.proofs.reading.names.names_differ.Given as goal

abbrev pub invariant-loop-name : goal.invariant-loop-name
invariant-loop-name l =
    let before = take l.name-index l.names in
    record {
      differ : NamesDiffer before;
      known : (q : List ℕ) → has_name l.known q ≡ list_any (same_word q) before;
    }
