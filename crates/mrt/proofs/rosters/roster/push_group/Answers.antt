use Rattle.std.proofs.Common.{List}
use Rattle.mrt.specs.declared.rosters.roster.Group.{Group}
use Rattle.mrt.proofs.placements.Rostering.{group_of-pushed, group_of-shared}
use Rattle.mrt.proofs.rosters.roster.push_group.Goals as goal
use Rattle.mrt.proofs.rosters.roster.push_group.Goals.{in-Some, in-None+in_ok-group-in-None}

pub returns-clause-pushed : goal.returns-clause-pushed
returns-clause-pushed c =
    let groups : List Group = c.args.groups.now.items in
    elim c.match-earlier.branch [
      | in-Some w ↦
          let earlier = rw w.in-Some.is at c.requires.earlier in
          rw (c.in_ok-push.ensures.items, w.choices-is, w.group-is) (group_of-shared _ _ groups _ w.index.result.now earlier.0 w.index.ensures earlier.1)
      | in-None+in_ok-group-in-None w ↦
          let g = w.in_ok-group-in-None in
          rw (c.in_ok-push.ensures.items, w.choices-is, w.group-is) (group_of-pushed _ _ _ groups g.group g.ensures.pushed c.requires.each_group g.ensures.first g.ensures.end)
    ]
