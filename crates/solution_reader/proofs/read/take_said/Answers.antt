use Rattle.problem_lines.specs.SolutionParsed.{solution_line_seen}
use Rattle.solution_reader.specs.inner.Taken.{sofar_seen}
use Rattle.solution_reader.proofs.Lines.{taken}
use Rattle.solution_reader.proofs.read.take_said.Goals as goal

pub returns-in-Ok : goal.returns-in-Ok
returns-in-Ok c = λ before rest is.
    taken c.args.number before (sofar_seen c.args.sofar.now) (sofar_seen c.take_line.new.self) (solution_line_seen c.args.said) rest is c.in-Ok.ensures.fault c.in-Ok.ensures.taken
