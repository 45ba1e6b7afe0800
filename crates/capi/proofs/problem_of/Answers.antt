use Rattle.capi.proofs.Ending.{ends_by}
use Rattle.capi.proofs.problem_of.Goals as goal

pub returns : goal.returns
returns c = ends_by c.args.problem.now c.in_ok-draft.draft c.args.ratio c.args.ceiling c.settings_of.result.ratio c.settings_of.result.ceiling c.new.result
    c.in_ok-draft.ensures c.settings_of.ensures.ratio c.settings_of.ensures.ceiling c.new.ensures.exact
