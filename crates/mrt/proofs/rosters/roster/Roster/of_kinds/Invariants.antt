use Rattle.std.proofs.Common.{◌≡◌, ℕ, ◌<◌, [], length, map, take, None, Some}
use Rattle.std.specs.List.{All, slice_index_or}
use Rattle.mrt.specs.inner.Rosters.{group_of, IsGroup}
use Rattle.mrt.proofs.rosters.roster.Roster.of_kinds.Given as goal

abbrev pub invariant-loop-kind : goal.invariant-loop-kind
invariant-loop-kind l = record {
  interval : l.choices.interval ≡ l.ii;
  groups : map (group_of l.choices.alternatives) l.groups.items ≡ map (λ kind. slice_index_or l.alternatives kind []) (take l.kind-index l.kinds);
  each_group : All (IsGroup (length l.choices.alternatives)) l.groups.items;
  count : length l.groups.items ≡ l.kind-index;
  room : length l.latest.items ≡ length l.alternatives;
  latest : (kind e : ℕ) → slice_index_or l.latest.items kind None ≡ Some e → (e < l.kind-index) × (slice_index_or l.kinds e kind ≡ kind);
}
