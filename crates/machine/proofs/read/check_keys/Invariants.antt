use Rattle.std.proofs.Common.{◌≡◌, map, Bor, List, ℕ}
use Rattle.toml.specs.View.{members_view, table_view}
use Rattle.machine.specs.MachineText.{unknown_keys}
use Rattle.machine.proofs.read.check_keys.Given as goal

abbrev pub invariant-loop-key : goal.invariant-loop-key
invariant-loop-key l = unknown_keys l.path (map (λ (k : Bor (List ℕ)). k.now) l.known) (members_view l.key-iterator) ≡ unknown_keys l.path (map (λ (k : Bor (List ℕ)). k.now) l.known) (table_view l.table)
