-- The graph of a loop in the language of Graphviz, with its schedule or without one.
use Rattle.std.specs.Prelude.{◌≡◌, ℕ, codes, List, ◌++◌}
use Rattle.std.specs.List.{flat_map}
use Rattle.edges.specs.Edges.{EdgeData}
use Rattle.graph_text.specs.Dot.{node_line}
use Rattle.lower_bounds.specs.Texts.{numbers_of}
use Rattle.loop_schedules.specs.Problems.{ProblemData}
use Rattle.loop_schedules.specs.Schedules.{ScheduleData}
use Rattle.loop_listings.specs.declared.causes.Cause.{Cause}
use Rattle.scheduled_graphs.specs.Arrows.{AreArrows}
use Rattle.scheduled_graphs.specs.Heads.{scheduled_head, unscheduled_head}
use Rattle.scheduled_graphs.specs.Nodes.{placed_lines}

-- the graph of a loop with a schedule, where the edges of a circuit are red
pub record IsScheduledText (schedule : ScheduleData) (circuit : List EdgeData) (text : List ℕ) : Type 0 where
  pub arrows : List ℕ
  pub are_arrows : AreArrows schedule.problem circuit arrows
  pub is_text : text ≡ ((scheduled_head schedule ++ placed_lines schedule) ++ arrows) ++ codes "}\n"

-- .. and of one that has no kernel, by a cause
pub record IsUnscheduledText (problem : ProblemData) (circuit : List EdgeData) (cause : Cause) (text : List ℕ) : Type 0 where
  pub arrows : List ℕ
  pub are_arrows : AreArrows problem circuit arrows
  pub is_text : text ≡ ((unscheduled_head problem cause ++ flat_map (node_line problem.loop) (numbers_of problem.loop)) ++ arrows) ++ codes "}\n"
