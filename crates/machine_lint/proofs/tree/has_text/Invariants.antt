use Rattle.std.proofs.Common.{◌≡◌, drop}
use Rattle.std.specs.List.{list_any}
use Rattle.toml.specs.View.{view}
use Rattle.machine_lint.specs.Values.{same_text}
use Rattle.machine_lint.proofs.tree.has_text.Given as goal

-- the values so far are others
abbrev pub invariant-loop-other : goal.invariant-loop-other
invariant-loop-other l = list_any (λ other. same_text (view other) (view l.value)) (drop l.other-index l.values) ≡ list_any (λ other. same_text (view other) (view l.value)) l.values
