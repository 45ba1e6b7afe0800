-- Whole graphs of loops.
use Rattle.std.proofs.Common.{◌≡◌, ℕ, List, ◌++◌, refl, ap, ◌∙◌, subst}
use Rattle.std.specs.Prelude.{codes}
use Rattle.std.specs.List.{flat_map}
use Rattle.edges.specs.Edges.{EdgeData}
use Rattle.graph_text.specs.Dot.{node_line}
use Rattle.lower_bounds.specs.Texts.{numbers_of}
use Rattle.loop_data.specs.Loops.{LoopData}
use Rattle.writing.proofs.Beginnings.{two_pushed}
use Rattle.loop_schedules.specs.Problems.{ProblemData}
use Rattle.loop_schedules.specs.Schedules.{ScheduleData}
use Rattle.loop_listings.specs.declared.causes.Cause.{Cause}
use Rattle.scheduled_graphs.specs.Arrows.{AreArrows}
use Rattle.scheduled_graphs.specs.Graphs.{IsScheduledText, IsUnscheduledText}
use Rattle.scheduled_graphs.specs.Heads.{scheduled_head, unscheduled_head}
use Rattle.scheduled_graphs.specs.Nodes.{placed_lines}

-- the edges of a problem, after a text
abbrev pub HasArrows : ProblemData → List EdgeData → List ℕ → List ℕ → Type 0
HasArrows p circuit mid new = (arrows : List ℕ) × AreArrows p circuit arrows × (new ≡ mid ++ arrows)

-- the parts of a graph, one after another
put-together : (head nodes arrows end old first second third new : List ℕ) → first ≡ old ++ head → second ≡ first ++ nodes → third ≡ second ++ arrows → new ≡ third ++ end
    → new ≡ old ++ (((head ++ nodes) ++ arrows) ++ end)
put-together head nodes arrows end old first second third new a b r e =
    two_pushed old ((head ++ nodes) ++ arrows) end third new (two_pushed old (head ++ nodes) arrows second third (two_pushed old head nodes first second a b) r) e

pub scheduled : (s : ScheduleData) (p : ProblemData) (circuit : List EdgeData) (old first second third new : List ℕ) → p ≡ s.problem → first ≡ old ++ scheduled_head s
    → second ≡ first ++ placed_lines s → HasArrows p circuit second third → new ≡ third ++ codes "}\n" → (part : List ℕ) × IsScheduledText s circuit part × (new ≡ old ++ part)
scheduled s p circuit old first second third new same a b given e =
    let r : HasArrows s.problem circuit second third = subst (λ (q : ProblemData). HasArrows q circuit second third) same given in (
      ((scheduled_head s ++ placed_lines s) ++ r.0) ++ codes "}\n",
      record { arrows = r.0; are_arrows = r.1; is_text = refl },
      put-together (scheduled_head s) (placed_lines s) r.0 (codes "}\n") old first second third new a b r.2 e,
    )

pub unscheduled : (p : ProblemData) (loop : LoopData) (circuit : List EdgeData) (cause : Cause) (old first second third new : List ℕ) → loop ≡ p.loop → first ≡ old ++ unscheduled_head p cause
    → second ≡ first ++ flat_map (node_line loop) (numbers_of loop) → HasArrows p circuit second third → new ≡ third ++ codes "}\n"
    → (part : List ℕ) × IsUnscheduledText p circuit cause part × (new ≡ old ++ part)
unscheduled p loop circuit cause old first second third new same a b r e =
    let head : List ℕ = unscheduled_head p cause in
    let nodes : List ℕ = flat_map (node_line p.loop) (numbers_of p.loop) in (
      ((head ++ nodes) ++ r.0) ++ codes "}\n",
      record { arrows = r.0; are_arrows = r.1; is_text = refl },
      put-together head nodes r.0 (codes "}\n") old first second third new a (b ∙ ap (λ (l : LoopData). first ++ flat_map (node_line l) (numbers_of l)) same) r.2 e,
    )
