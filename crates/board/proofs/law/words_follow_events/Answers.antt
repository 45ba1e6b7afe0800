use Rattle.board.proofs.Events.{stands, answers}
use Rattle.board.proofs.law.words_follow_events.Goals as goal

pub returns-clause-state : goal.returns-clause-state
returns-clause-state c = stands

pub returns-clause-answers : goal.returns-clause-answers
returns-clause-answers c = answers
