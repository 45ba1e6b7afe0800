use Rattle.problem_printouts.proofs.making.problem_by.Goals as goal

pub returns-clause-made : goal.returns-clause-made
returns-clause-made c = record { draft = c.in_ok-draft.draft; is_draft = c.in_ok-draft.ensures.exact; is_made = c.in_ok-problem.ensures }
