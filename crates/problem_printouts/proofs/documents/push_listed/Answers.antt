use Rattle.settings.specs.declared.format.Format.TheVariants.{Json}
use Rattle.problem_reader.specs.Files.{problem_at}
use Rattle.problem_printouts.specs.Solving.{IsAnswer}
use Rattle.problem_printouts.proofs.Answered.{if-ok}
use Rattle.problem_printouts.proofs.Commas.{after-comma}
use Rattle.problem_printouts.proofs.documents.push_listed.Goals as goal

pub returns-clause-answer : goal.returns-clause-answer
returns-clause-answer c =
    if-ok c.push_next.result c.push_next.ensures.answer
    (λ met one. after-comma (IsAnswer c.args.file.now c.args.settings.now Json (problem_at c.args.file.now c.args.number)) c.args.text.now.items c.push_piece.new.self.items c.push_next.new.text.items
    met c.in_ok-push_piece.ensures.ok one)
