use Rattle.solutions.proofs.Rightness.{lawful-is_run}
use Rattle.solutions.proofs.laws.lawful_solutions_are_runs.Goals as goal

pub returns : goal.returns
returns c = lawful-is_run
