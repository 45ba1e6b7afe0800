use Rattle.solution_json.proofs.outcome.push_outcome_json.Goals as goal

pub returns : goal.returns
returns c = record {
  told = (
    c.in_ok-push_told.ensures.0,
    c.in_ok-push_told.ensures.1,
    record {
      outcome = c.args.solved.now.outcome;
      is_solved = c.requires.is_solved;
      is_right = c.requires.is_right;
      same_met = c.is_met.ensures;
      is_told = c.in_ok-push_told.ensures.2;
    },
  );
}
