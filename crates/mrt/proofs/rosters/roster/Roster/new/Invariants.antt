use Rattle.std.proofs.Common.{◌≡◌, ◌<◌, length, map, take}
use Rattle.std.specs.List.{All}
use Rattle.mrt.specs.declared.rosters.kinds.Kind.{Kind}
use Rattle.mrt.specs.inner.Rosters.{group_of, IsGroup, IsKind}
use Rattle.mrt.proofs.rosters.roster.Roster.new.Given as goal

abbrev pub invariant-loop-operation : goal.invariant-loop-operation
invariant-loop-operation l = record {
  interval : l.choices.interval ≡ l.ii;
  groups : map (group_of l.choices.alternatives) l.groups.items ≡ take l.operation-index l.operations;
  each_group : All (IsGroup (length l.choices.alternatives)) l.groups.items;
  count : length l.groups.items ≡ l.operation-index;
  kinds : All (λ (kind : Kind). kind.operation < l.operation-index) l.kinds.items;
  each_kind : All (IsKind l.operations) l.kinds.items;
}
