-- A law of the names of a problem text.
use Rattle.std.specs.Prelude.{◌≡◌, ◌↔◌, ℕ, List, true}
use Rattle.problems.specs.Labels.{IsLabel}
use Rattle.problem_lines.specs.Names.{is_name}

-- names are labels
abbrev pub NamesAreLabels : Type 0
NamesAreLabels = (word : List ℕ) → (is_name word ≡ true) ↔ IsLabel word
