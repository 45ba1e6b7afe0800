use Rattle.std.proofs.Common.{◌≡◌, ◌-◌, Some, length}
use Rattle.std.specs.List.{slice_get}
use Rattle.loop_data.specs.declared.language.statement.Statement.{Statement}
use Rattle.loop_data.specs.declared.language.statement.Place.{Place}
use Rattle.graph.specs.Subscripts.{GainsEdges, HasMeetings}
use Rattle.graph.proofs.dependence.collect.push_meetings.Given as goal

abbrev pub invariant-loop-from : goal.invariant-loop-from
invariant-loop-from l = record {
  touches : (place : Place) → l.second.place ≡ Some place → (s : Statement) → slice_get l.statements l.from ≡ Some s
      → (p : Place) × (s.place ≡ Some p) × (p.array ≡ place.array);
  collected : GainsEdges l.statements l.latencies l.initial.list.items l.list.items × HasMeetings l.statements l.latencies l.to l.from l.list.items;
}

abbrev pub decreases-loop-from : goal.decreases-loop-from
decreases-loop-from l = length l.statements - l.from
