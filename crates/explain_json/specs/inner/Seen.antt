-- The members of a loop's object, as their values.
use Rattle.std.specs.Prelude.{codes}
use Rattle.serde_json.specs.Data.{Members, member, no_members, string}
use Rattle.loop_schedules.specs.Problems.{ProblemData, mii_of}
use Rattle.explain_json.specs.Loops.{MembersData}
use Rattle.explain_json.specs.Parts.{count_value}

-- those that a loop has whether it has a kernel or not
unfoldable pub loop_members : ProblemData → MembersData → Members
loop_members problem members =
    member (codes "circuit") members.circuit
    (member (codes "edges") members.edges
    (member (codes "mii") (count_value (mii_of problem))
    (member (codes "name") (string problem.loop.name)
    (member (codes "operations") members.operations
    (member (codes "recurrences") (count_value problem.recurrences)
    (member (codes "resources") (count_value problem.resources)
    (member (codes "set") members.set
    (member (codes "tried") members.tried
    (member (codes "units") members.units no_members)))))))))
