use Rattle.std.proofs.Common.{◌≡◌, ◌++◌, option_map, Bor, List, ℕ}
use Rattle.std.specs.List.{flat_map}
use Rattle.toml.specs.View.{members_view, table_view}
use Rattle.machine.specs.MachineText.{entries_of}
use Rattle.machine_lint.specs.Tree.{key_told}
use Rattle.machine_lint.proofs.tree.judge_keys.Given as goal

-- what is told so far, with what is to be told of the rest
abbrev pub invariant-loop-name : goal.invariant-loop-name
invariant-loop-name l =
    l.lints.items ++ flat_map (key_told l.text (option_map (λ (w : Bor (List ℕ)). w.now) l.word)) (entries_of (members_view l.name-iterator))
    ≡ l.initial.lints.items ++ flat_map (key_told l.text (option_map (λ (w : Bor (List ℕ)). w.now) l.word)) (entries_of (table_view l.table))
