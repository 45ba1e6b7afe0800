use Rattle.std.proofs.Common.{sym, ◌∙◌}
use Rattle.toml.specs.View.{view}
use Rattle.machine.proofs.texts.Texts.{list_any-map}
use Rattle.machine_lint.specs.Values.{same_text}
use Rattle.machine_lint.proofs.tree.is_text_among.Goals as goal

pub returns : goal.returns
returns c = c.has_text.ensures ∙ sym (list_any-map (λ other. same_text other (view c.args.value.now)) view c.args.values.now)
