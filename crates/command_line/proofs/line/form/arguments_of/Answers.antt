use Rattle.std.proofs.Common.{refl}
use Rattle.command_line.specs.Lines.{check_line, dot_line, either_line, either_with_names, explain_line, lint_line, plain_line, run_line, schedule_line, search_line, solve_line, vary_line}
use Rattle.command_line.proofs.line.form.arguments_of.Goals as goal

pub returns-in-Schedule : goal.returns-in-Schedule
unfolding schedule_line search_line
returns-in-Schedule c = rw c.in-Schedule.is refl

pub returns-in-Run : goal.returns-in-Run
unfolding run_line
returns-in-Run c = rw c.in-Run.is refl

pub returns-in-Json : goal.returns-in-Json
unfolding search_line
returns-in-Json c = rw c.in-Json.is refl

pub returns-in-Explain : goal.returns-in-Explain
unfolding explain_line either_with_names either_line
returns-in-Explain c = rw c.in-Explain.is refl

pub returns-in-Vary : goal.returns-in-Vary
unfolding vary_line search_line
returns-in-Vary c = rw c.in-Vary.is refl

pub returns-in-Edges : goal.returns-in-Edges
unfolding either_with_names either_line
returns-in-Edges c = rw c.in-Edges.is refl

pub returns-in-Dot : goal.returns-in-Dot
unfolding dot_line either_with_names either_line
returns-in-Dot c = rw c.in-Dot.is refl

pub returns-in-Plain : goal.returns-in-Plain
unfolding plain_line
returns-in-Plain c = rw c.in-Plain.is refl

pub returns-in-Lint : goal.returns-in-Lint
unfolding lint_line either_line
returns-in-Lint c = rw c.in-Lint.is refl

pub returns-in-Solve : goal.returns-in-Solve
unfolding solve_line
returns-in-Solve c = rw c.in-Solve.is refl

pub returns-in-Check : goal.returns-in-Check
unfolding check_line
returns-in-Check c = rw c.in-Check.is refl
