use Rattle.lint_text.proofs.Whole.{all-whole}
use Rattle.lint_text.proofs.document.document_line.Goals as goal

pub written-requires : goal.written-requires
written-requires c = rw c.in_ok-values.ensures (all-whole c.args.machine c.args.loops _ _)
