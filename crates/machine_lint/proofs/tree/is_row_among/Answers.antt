use Rattle.std.proofs.Common.{sym, ◌∙◌}
use Rattle.toml.specs.View.{view}
use Rattle.machine.proofs.texts.Texts.{list_any-map}
use Rattle.machine_lint.specs.Values.{row_words_in, same_words}
use Rattle.machine_lint.proofs.tree.is_row_among.Goals as goal

pub returns : goal.returns
returns c = c.has_row.ensures ∙ sym (list_any-map (λ other. same_words (row_words_in other) (row_words_in (view c.args.row.now))) view c.args.rows.now)
