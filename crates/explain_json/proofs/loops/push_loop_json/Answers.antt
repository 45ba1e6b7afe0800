use Rattle.std.proofs.Common.{◌≡◌, Bool, ℕ, List, refl, sym, subst, IfOk}
use Rattle.std.specs.List.{All, AllZip}
use Rattle.std.proofs.lemmas.Result.{on_ok_weaker}
use Rattle.serde_json.specs.View.{members_view, view}
use Rattle.serde_json.specs.Written.{compact_text}
use Rattle.loop_data.specs.Loops.{LoopData}
use Rattle.edges.specs.Graphs.{GraphData}
use Rattle.graph_text.specs.Kinds.{IsTimed}
use Rattle.explain_json.specs.Edges.{IsEdgeObject}
use Rattle.explain_json.specs.Loops.{Given, members_of, object_of, object_with}
use Rattle.explain_json.specs.inner.Seen.{loop_members}
use Rattle.explain_json.proofs.Timed.{all-timed}
use Rattle.explain_json.proofs.Whole.{object-whole}
use Rattle.explain_json.proofs.loops.push_loop_json.Goals as goal

pub told_edges-requires-clause-timed : goal.told_edges-requires-clause-timed
told_edges-requires-clause-timed c =
    let p = c.args.prepared.now in
    subst (λ (l : LoopData). All (IsTimed l c.edges.result.now.latencies) c.edges.result.now.edges) (sym c.innermost.ensures.value)
    (subst (λ (g : GraphData). All (IsTimed p.loop g.latencies) g.edges) (sym c.edges.ensures.value) (all-timed p c.edges.ensures.well_formed))

pub returns : goal.returns
returns c =
    let p = c.args.prepared.now in
    let given : Given = record { machine = c.args.machine.now; alternatives = c.args.alternatives.now; set = c.args.set.now; circuit = c.args.circuit.now; problem = p; told = c.args.told.now } in
    let heights = c.in_ok-heights.heights.items in
    let made = c.in_ok-edges.ensures in
    let edges = made.0 in
    let are : AllZip (IsEdgeObject p.loop p.graph.latencies) p.graph.edges edges =
    subst (λ (l : LoopData). AllZip (IsEdgeObject l p.graph.latencies) p.graph.edges edges) c.innermost.ensures.value
    (subst (λ (g : GraphData). AllZip (IsEdgeObject c.innermost.result.now g.latencies) g.edges edges) c.edges.ensures.value made.1) in
    let told = members_of given heights edges given.told.chosen in
    let members : IfOk c.members_of-members.result (λ m. members_view m.entries ≡ loop_members p told) =
    subst (λ (hs : List ℕ). IfOk c.members_of-members.result (λ m. members_view m.entries ≡ loop_members p (members_of given hs edges given.told.chosen))) c.as_slice.ensures.value
    (c.members_of-members.ensures edges made.2) in
    let object = object_of given heights edges in
    let is : IfOk c.told_loop-object.result (λ v. view v ≡ object) =
    subst (λ (free : Bool). IfOk c.told_loop-object.result (λ v. view v ≡ object_with given.machine given.set free p given.told.reasons.items told given.told.chosen)) c.is_empty-free.ensures
    (c.told_loop-object.ensures told members) in
    record {
      ok = on_ok_weaker c.push_value.result
          (λ written. (
            compact_text object,
            record {
              heights = heights;
              are_heights = c.in_ok-heights.ensures.exact;
              edges = edges;
              are_edges = are;
              is_text = refl;
            },
            written (object-whole given heights edges are),
          ))
          (c.push_value.ensures object is);
    }
