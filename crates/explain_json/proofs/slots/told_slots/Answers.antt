use Rattle.std.proofs.Common.{[], map}
use Rattle.serde_json.specs.View.{view}
use Rattle.explain_json.specs.Kernels.{row_slots}
use Rattle.explain_json.proofs.Lists.{several-more}
use Rattle.explain_json.proofs.slots.told_slots.Goals as goal

pub loop-row-preserved : goal.loop-row-preserved
loop-row-preserved c =
    several-more (row_slots c.args.takers.now c.args.used.now) c.loop-row.row [] (map view c.loop-row.values.items) (map view c.push_row.new.values.items) c.loop-row.invariant
    c.in_ok-push_row.ensures.ok
