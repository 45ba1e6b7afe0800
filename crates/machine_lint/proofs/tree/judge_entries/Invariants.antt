use Rattle.std.proofs.Common.{◌≡◌, ◌++◌, option_map}
use Rattle.std.specs.List.{flat_map}
use Rattle.toml.specs.View.{members_view, table_view, view}
use Rattle.machine.specs.MachineText.{entries_of}
use Rattle.machine_lint.specs.Tree.{entry_told}
use Rattle.machine_lint.proofs.tree.judge_entries.Given as goal

-- what is told so far, with what is to be told of the rest
abbrev pub invariant-loop-word : goal.invariant-loop-word
invariant-loop-word l =
    l.lints.items ++ flat_map (entry_told l.text (option_map (λ v. view v.now) l.units)) (entries_of (members_view l.word-iterator))
    ≡ l.initial.lints.items ++ flat_map (entry_told l.text (option_map (λ v. view v.now) l.units)) (entries_of (table_view l.tables))
