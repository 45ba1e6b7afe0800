use Rattle.std.proofs.Common.{sym, ◌∙◌, subst}
use Rattle.problems.specs.inner.Listed.{AreListed}
use Rattle.problems.proofs.made.Whole.{is-well_formed, is-problem, is-problem_of}
use Rattle.problems.proofs.problem.Problem.of_faultless.Goals as goal

pub tables_of-requires : goal.tables_of-requires
tables_of-requires c = is-well_formed c.args.draft c.requires

pub scheduling_of-requires-clause-well_formed : goal.scheduling_of-requires-clause-well_formed
scheduling_of-requires-clause-well_formed c = is-well_formed c.args.draft c.requires

pub invariant_of-result : goal.invariant_of-result
invariant_of-result c =
    let made = c.in_ok-scheduling.ensures in (
      is-problem c.args.draft c.in_ok-scheduling.scheduling c.requires made.0,
      subst (AreListed c.in_ok-tables.tables.lists.items c.in_ok-tables.tables.numbers.items) (sym made.0.same_operations) c.in_ok-tables.ensures,
    )

pub returns : goal.returns
returns c =
    let made = c.in_ok-scheduling.ensures in
    is-problem_of c.args.draft c.in_ok-scheduling.scheduling c.args.settings.now.ratio c.args.settings.now.ceiling c.requires made.0
    (made.1 ∙ c.ratio.ensures.value) (made.2 ∙ c.ceiling.ensures.value)
