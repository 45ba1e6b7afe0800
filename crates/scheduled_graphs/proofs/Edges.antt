-- The edges of a problem are dependences of its loop.
use Rattle.std.proofs.Common.{◌≡◌, ℕ, ◌<◌, List, length, get_or, sym, ◌∙◌, subst}
use Rattle.std.specs.List.{All}
use Rattle.edges.specs.Edges.{EdgeData}
use Rattle.graph.specs.Dependences.{Dependence}
use Rattle.graph_text.specs.Kinds.{IsTimed}
use Rattle.loop_data.specs.Loops.{LoopData}
use Rattle.loop_schedules.specs.Problems.{ProblemData, IsProblem}

pub edge-timed : (problem : ProblemData) (loop : LoopData) (edges : List EdgeData) → IsProblem problem → loop ≡ problem.loop → edges ≡ problem.graph.edges → (i : ℕ) (d : EdgeData)
    → i < length edges → IsTimed loop problem.graph.latencies (get_or edges i d)
edge-timed problem loop edges is of same i d within =
    subst (λ (l : LoopData). IsTimed l problem.graph.latencies (get_or edges i d)) (sym of) (record {
      all = is.is_problem.each_latency ∙ is.each_operation;
      short = is.is_problem.graph.latencies;
      dependence = subst (λ (es : List EdgeData). All (Dependence problem.loop problem.graph.latencies) es) (sym same) is.sound i d within;
    })
