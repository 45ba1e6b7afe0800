use Rattle.std.proofs.Common.{◌≡◌, ◌==◌, List, length, vec_len, sym, ap, ◌∙◌, subst, arith}
use Rattle.std.specs.List.{All}
use Rattle.loop_data.specs.Loops.{IsLoop, LoopData}
use Rattle.edges.specs.Edges.{EdgeData}
use Rattle.edges.specs.Graphs.{GraphData}
use Rattle.graph_text.specs.Kinds.{IsTimed}
use Rattle.explain.proofs.Circuits.{circuit-part, circuit-short, circuit-timed, critical-of}
use Rattle.explain.proofs.circuit.push_circuit.Goals as goal

pub push_circuit_line-requires : goal.push_circuit_line-requires
push_circuit_line-requires c =
    let p = c.args.prepared.now in
    let critical = critical-of p c.edges-graph.result.now c.recurrences-bound.result c.in_ok-circuit.circuit.items c.edges-graph.ensures.value c.recurrences-bound.ensures.value
    c.in_ok-circuit.ensures.exact in
    rw c.as_slice.ensures.value (record { few = circuit-short p p.recurrences c.in_ok-circuit.circuit.items c.edges-graph.ensures.well_formed critical })

pub push_circuit_edges-requires : goal.push_circuit_edges-requires
push_circuit_edges-requires c =
    let p = c.args.prepared.now in
    let critical = critical-of p c.edges-graph.result.now c.recurrences-bound.result c.in_ok-circuit.circuit.items c.edges-graph.ensures.value c.recurrences-bound.ensures.value
    c.in_ok-circuit.ensures.exact in
    record {
      whole = subst IsLoop (sym c.innermost.ensures.value) c.edges-graph.ensures.well_formed.loop;
      timed = subst (λ (es : List EdgeData). All (IsTimed c.innermost.result.now c.edges-graph.result.now.latencies) es) (sym c.as_slice-2.ensures.value)
          (subst (λ (g : GraphData). All (IsTimed c.innermost.result.now g.latencies) c.in_ok-circuit.circuit.items) (sym c.edges-graph.ensures.value)
          (subst (λ (l : LoopData). All (IsTimed l p.graph.latencies) c.in_ok-circuit.circuit.items) (sym c.innermost.ensures.value)
          (circuit-timed p p.recurrences c.in_ok-circuit.circuit.items c.edges-graph.ensures.well_formed critical)));
    }

pub returns : goal.returns
returns c =
    let p = c.args.prepared.now in
    let same : vec_len c.in_ok-circuit.circuit ≡ length c.in_ok-circuit.circuit.items = omega (arith, c.in_ok-circuit.circuit.ok.0) in
    let lone : c.is_empty.result ≡ (length c.in_ok-circuit.circuit.items == 0) = c.is_empty.ensures ∙ ap (λ n. n == 0) same in
    record {
      ok = circuit-part c.is_empty.result p c.innermost.result.now c.edges-graph.result.now c.recurrences-bound.result c.in_ok-circuit.circuit.items c.as_slice.result.now c.as_slice-2.result.now
          c.args.text.now.items c.push_circuit_line.new.text.items c.push_circuit_edges.new.text.items c.innermost.ensures.value c.edges-graph.ensures.value c.recurrences-bound.ensures.value
          c.as_slice.ensures.value c.as_slice-2.ensures.value lone c.in_ok-circuit.ensures.exact c.in_ok-push_circuit_line.ensures.ok c.in_ok-push_circuit_edges.ensures.ok;
    }
