-- The edges of a loop's graph are dependences of the loop.
use Rattle.std.proofs.Common.{◌≡◌, ℕ, ◌<◌, List, length, get_or, sym, ap, ◌∙◌, subst}
use Rattle.std.specs.List.{All}
use Rattle.machine_data.specs.Machines.{MachineData}
use Rattle.loop_data.specs.Loops.{LoopData}
use Rattle.edges.specs.Edges.{EdgeData}
use Rattle.graph.specs.Dependences.{Dependence, latencies_of}
use Rattle.edges.specs.Graphs.{GraphData, IsGraph}
use Rattle.graph.specs.Graphs.{IsGraphOf}
use Rattle.graph.proofs.finding.Latencies.{length-latencies}
use Rattle.graph_text.specs.Kinds.{IsTimed}

pub graph-length : (machine : MachineData) (loop : LoopData) (graph : GraphData) → IsGraphOf machine loop graph → length graph.latencies ≡ length loop.statements
graph-length machine loop graph of = ap length of.latencies ∙ length-latencies machine loop

pub edge-timed : (machine : MachineData) (loop : LoopData) (graph : GraphData) (edges : List EdgeData) → edges ≡ graph.edges → IsGraphOf machine loop graph → IsGraph graph
    → (i : ℕ) (d : EdgeData) → i < length edges → IsTimed loop graph.latencies (get_or edges i d)
edge-timed machine loop graph edges same of is i d within = record {
  all = graph-length machine loop graph of;
  short = is.latencies;
  dependence = subst (λ (l : List ℕ). Dependence loop l (get_or edges i d)) (sym of.latencies)
      (subst (λ (es : List EdgeData). All (Dependence loop (latencies_of machine loop)) es) (sym same) of.sound i d within);
}
