-- The dependences of a problem are those of its loop.
use Rattle.std.proofs.Common.{◌∙◌}
use Rattle.std.specs.List.{All}
use Rattle.graph_text.specs.Kinds.{IsTimed}
use Rattle.loop_schedules.specs.Problems.{ProblemData, IsProblem}

pub all-timed : (p : ProblemData) → IsProblem p → All (IsTimed p.loop p.graph.latencies) p.graph.edges
all-timed p is = λ k d h. record { all = is.is_problem.each_latency ∙ is.each_operation; short = is.is_problem.graph.latencies; dependence = is.sound k d h }
