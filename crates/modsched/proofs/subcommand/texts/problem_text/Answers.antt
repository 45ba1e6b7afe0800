use Rattle.modsched.specs.Engine.{most_problems_read}
use Rattle.modsched.proofs.subcommand.texts.problem_text.Goals as goal

pub returns-clause-text : goal.returns-clause-text
unfolding most_problems_read
returns-clause-text g c = c.read_text_of.ensures.text

pub returns-clause-rest : goal.returns-clause-rest
unfolding most_problems_read
returns-clause-rest g c = c.read_text_of.ensures.rest
