-- Whole graphs of problems.
use Rattle.std.proofs.Common.{◌≡◌, List, ◌++◌, length, ℕ, refl, subst}
use Rattle.std.specs.Prelude.{codes}
use Rattle.std.specs.List.{flat_map, range_with_len}
use Rattle.edges.specs.Edges.{EdgeData}
use Rattle.edges.specs.Graphs.{GraphData}
use Rattle.graph_text.specs.Drawings.{IsCritical}
use Rattle.writing.proofs.Beginnings.{two_pushed}
use Rattle.schedules.specs.Problems.{ProblemData as SchedulingData}
use Rattle.problems.specs.declared.draft.Draft.{Draft}
use Rattle.problems.specs.Problems.{ProblemData}
use Rattle.solutions.specs.declared.solving.outcome.Outcome.{Outcome}
use Rattle.problem_graphs.specs.declared.arrows.Look.{Look}
use Rattle.problem_graphs.specs.declared.arrows.Look.TheVariants.{Plain, Scheduled}
use Rattle.problem_graphs.specs.Arrows.{AreOrders, AreReads}
use Rattle.problem_graphs.specs.Dot.{IsDotText, graph_head}
use Rattle.problem_graphs.specs.Nodes.{node_line, title}
use Rattle.problem_graphs.specs.Scheduled.{IsScheduledText, look_text, nodes_of as placed_of, result_text}

-- the arrows of all reads, after a text
abbrev pub HasReads : Look → Draft → List EdgeData → List ℕ → List ℕ → Type 0
HasReads look draft circuit mid new = (arrows : List ℕ) × AreReads look draft circuit draft.reads.items arrows × (new ≡ mid ++ arrows)

-- .. and of all orders
abbrev pub HasOrders : Look → Draft → List EdgeData → List ℕ → List ℕ → Type 0
HasOrders look draft circuit mid new = (arrows : List ℕ) × AreOrders look draft circuit draft.orders.items arrows × (new ≡ mid ++ arrows)

pub critical-of : (q s : SchedulingData) (g : GraphData) (bound : ℕ) (circuit : List EdgeData) → g ≡ q.graph → bound ≡ q.recurrences → q ≡ s → IsCritical g.edges bound circuit
    → IsCritical s.graph.edges s.recurrences circuit
critical-of q s g bound circuit graph_is bound_is same h =
    subst (λ (t : SchedulingData). IsCritical t.graph.edges t.recurrences circuit) same
    (subst (λ b. IsCritical q.graph.edges b circuit) bound_is (subst (λ (k : GraphData). IsCritical k.edges bound circuit) graph_is h))

abbrev pub nodes_of : Draft → List ℕ
nodes_of draft = flat_map (node_line draft) (range_with_len 0 (length draft.operations.items))

-- the parts of a graph, one after another
put-together : (head nodes reads orders end old first second third fourth new : List ℕ) → first ≡ old ++ head → second ≡ first ++ nodes → third ≡ second ++ reads → fourth ≡ third ++ orders
    → new ≡ fourth ++ end → new ≡ old ++ ((((head ++ nodes) ++ reads) ++ orders) ++ end)
put-together head nodes reads orders end old first second third fourth new a b r o e =
    two_pushed old (((head ++ nodes) ++ reads) ++ orders) end fourth new
    (two_pushed old ((head ++ nodes) ++ reads) orders third fourth (two_pushed old (head ++ nodes) reads second third (two_pushed old head nodes first second a b) r) o) e

pub drawn : (name : List ℕ) (p : ProblemData) (circuit : List EdgeData) (old first second third fourth new : List ℕ)
    → IsCritical p.scheduling.graph.edges p.scheduling.recurrences circuit → first ≡ old ++ graph_head name p.scheduling → second ≡ first ++ nodes_of p.draft
    → HasReads Plain p.draft circuit second third → HasOrders Plain p.draft circuit third fourth → new ≡ fourth ++ codes "}\n"
    → (part : List ℕ) × IsDotText name p part × (new ≡ old ++ part)
drawn name p circuit old first second third fourth new critical a b r o e =
    let head : List ℕ = graph_head name p.scheduling in
    let nodes : List ℕ = nodes_of p.draft in (
      (((head ++ nodes) ++ r.0) ++ o.0) ++ codes "}\n",
      record { circuit = circuit; is_critical = critical; reads = r.0; are_reads = r.1; orders = o.0; are_orders = o.1; is_text = refl },
      put-together head nodes r.0 o.0 (codes "}\n") old first second third fourth new a b r.2 o.2 e,
    )

-- the same with what the problem comes to
pub scheduled : (name : List ℕ) (p : ProblemData) (outcome : Outcome) (circuit : List EdgeData) (old zeroth first second third fourth new : List ℕ)
    → IsCritical p.scheduling.graph.edges p.scheduling.recurrences circuit → zeroth ≡ old ++ title name p.scheduling
    → first ≡ zeroth ++ (result_text p outcome ++ look_text outcome) → second ≡ first ++ placed_of p.draft outcome
    → HasReads Scheduled p.draft circuit second third → HasOrders Scheduled p.draft circuit third fourth → new ≡ fourth ++ codes "}\n"
    → (part : List ℕ) × IsScheduledText name p outcome part × (new ≡ old ++ part)
scheduled name p outcome circuit old zeroth first second third fourth new critical z a b r o e =
    let head : List ℕ = title name p.scheduling ++ (result_text p outcome ++ look_text outcome) in
    let nodes : List ℕ = placed_of p.draft outcome in (
      (((head ++ nodes) ++ r.0) ++ o.0) ++ codes "}\n",
      record { circuit = circuit; is_critical = critical; reads = r.0; are_reads = r.1; orders = o.0; are_orders = o.1; is_text = refl },
      put-together head nodes r.0 o.0 (codes "}\n") old first second third fourth new
          (two_pushed old (title name p.scheduling) (result_text p outcome ++ look_text outcome) zeroth first z a) b r.2 o.2 e,
    )
