-- The dependences of a loop as data.
use Rattle.std.specs.Prelude.{◌≡◌}
use Rattle.std.specs.List.{All, AllPairs, Contains}
use Rattle.machine_data.specs.Machines.{MachineData}
use Rattle.loop_data.specs.Loops.{LoopData}
use Rattle.edges.specs.Edges.{EdgeData, Precedes}
use Rattle.edges.specs.Graphs.{GraphData}
use Rattle.graph.specs.Dependences.{Dependence, latencies_of}

-- the graph has just the dependences between the operations of the loop, each once and in order, and the operations' latencies
pub record IsGraphOf (machine : MachineData) (loop : LoopData) (graph : GraphData) : Type 0 where
  pub latencies : graph.latencies ≡ latencies_of machine loop
  pub sound : All (Dependence loop (latencies_of machine loop)) graph.edges
  pub complete : (e : EdgeData) → Dependence loop (latencies_of machine loop) e → Contains graph.edges e
  pub ascending : AllPairs Precedes graph.edges
