use Rattle.std.proofs.Common.{◌≡◌, drop}
use Rattle.std.specs.List.{list_any}
use Rattle.toml.specs.View.{view}
use Rattle.machine_lint.specs.Values.{row_words_in, same_words}
use Rattle.machine_lint.proofs.tree.has_row.Given as goal

-- the rows so far are others
abbrev pub invariant-loop-other : goal.invariant-loop-other
invariant-loop-other l = list_any (λ other. same_words (row_words_in (view other)) (row_words_in (view l.row))) (drop l.other-index l.rows) ≡ list_any (λ other. same_words (row_words_in (view other)) (row_words_in (view l.row))) l.rows
