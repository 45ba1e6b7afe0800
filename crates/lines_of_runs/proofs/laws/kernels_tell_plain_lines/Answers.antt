use Rattle.lines_of_runs.proofs.KernelLines.{kernels-tell_plain_lines}
use Rattle.lines_of_runs.proofs.laws.kernels_tell_plain_lines.Goals as goal

pub returns : goal.returns
returns c = kernels-tell_plain_lines
