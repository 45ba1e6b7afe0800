use Rattle.problem_printouts.proofs.making.problem_in.Goals as goal

pub returns : goal.returns
returns c = record { draft = c.in_ok-draft.draft; is_draft = c.in_ok-draft.ensures.exact; is_made = c.in_ok-problem.ensures }
