use Rattle.std.proofs.Common.{◌∙◌}
use Rattle.problem_lines.proofs.EightBytes.{eight_taken}
use Rattle.problem_lines.proofs.eights.are_eight_same.Goals as goal

pub returns : goal.returns
returns c = c.starts_with.ensures.value ∙ eight_taken c.args.one.now c.args.other.now c.args.at c.requires.one
