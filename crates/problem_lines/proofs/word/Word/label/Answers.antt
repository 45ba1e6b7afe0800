use Rattle.problem_lines.proofs.Labels.{name-label}
use Rattle.problem_lines.proofs.word.Word.label.Goals as goal

pub of_name-requires : goal.of_name-requires
of_name-requires c = (name-label c.args.self.bytes.now).0 c.args.self.named
