use Rattle.std.proofs.Common.{map}
use Rattle.serde_json.specs.View.{view}
use Rattle.solution_json.specs.Values.{initials_of}
use Rattle.solution_json.proofs.Lists.{several-more}
use Rattle.solution_json.proofs.initials.told_initials.Goals as goal

pub loop-value-preserved : goal.loop-value-preserved
loop-value-preserved c =
    several-more (initials_of c.args.solution.now) c.loop-value.value (map view c.loop-value.values.items) (map view c.push_initials_of.new.values.items) c.loop-value.invariant
    c.in_ok-push_initials_of.ensures.ok
