use Rattle.std.proofs.Common.{◌≡◌, map, take}
use Rattle.std.specs.Prelude.{slice_index}
use Rattle.problems.specs.declared.draft.Kind.{Kind}
use Rattle.problems.proofs.making.tables.latencies_of.Given as goal

abbrev pub invariant-loop-kind : goal.invariant-loop-kind
invariant-loop-kind l = l.cycles.items ≡ map (λ kind. slice_index (map (λ (k : Kind). k.latency) l.draft.kinds.items) kind) (take l.kind-index l.draft.operations.items)
