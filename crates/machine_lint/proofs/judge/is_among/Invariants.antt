use Rattle.std.proofs.Common.{◌≡◌, drop}
use Rattle.std.specs.List.{list_any}
use Rattle.toml.specs.Data.{string}
use Rattle.toml.specs.View.{view}
use Rattle.machine_lint.specs.Values.{same_text}
use Rattle.machine_lint.proofs.judge.is_among.Given as goal

-- the values so far are others
abbrev pub invariant-loop-value : goal.invariant-loop-value
invariant-loop-value l = list_any (λ v. same_text (string l.name) (view v)) (drop l.value-index l.values) ≡ list_any (λ v. same_text (string l.name) (view v)) l.values
