-- The circuit that needs the bound of a problem.
use Rattle.std.proofs.Common.{◌≡◌, ◌==◌, Bool, ℕ, ◌<◌, ◌≤◌, zero, suc, List, [], ◌∷◌, ◌++◌, length, get_or, refl, ap, ◌∙◌, subst, arith}
use Rattle.std.specs.List.{All, Contains}
use Rattle.std.proofs.lemmas.List.Elements.{All-contains}
use Rattle.edges.specs.Edges.{EdgeData}
use Rattle.graph.specs.Dependences.{Dependence}
use Rattle.edges.specs.Graphs.{GraphData}
use Rattle.walks.specs.Walks.{IsWalk}
use Rattle.circuits.proofs.Rounds.{once-short}
use Rattle.graph_text.specs.CircuitLines.{circuit_line}
use Rattle.graph_text.specs.Drawings.{IsCritical}
use Rattle.graph_text.specs.Edges.{edge_line}
use Rattle.graph_text.specs.Kinds.{IsOfKind, IsTimed}
use Rattle.lower_bounds.specs.Texts.{AreTexts}
use Rattle.writing.proofs.Beginnings.{two_pushed}
use Rattle.loop_data.specs.Loops.{LoopData}
use Rattle.loop_schedules.specs.Problems.{ProblemData, IsProblem}
use Rattle.explain.specs.CircuitTexts.{IsCircuitText}

-- the edges of a walk
walked : (edges : List EdgeData) (p q : ℕ) (walk : List EdgeData) → IsWalk edges p walk q → (k : ℕ) (d : EdgeData) → k < length walk → Contains edges (get_or walk k d)
walked edges p q [] w k d h = absurd (omega arith)
walked edges p q (e ∷ walk) w zero d h = w.0
walked edges p q (e ∷ walk) w (suc k) d h = walked edges e.to q walk w.2 k d (omega arith)

pub circuit-short : (problem : ProblemData) (bound : ℕ) (circuit : List EdgeData) → IsProblem problem → IsCritical problem.graph.edges bound circuit → length circuit ≤ 128
circuit-short problem bound [] is c = omega arith
circuit-short problem bound (e ∷ circuit) is c =
    let short : length (e ∷ circuit) ≤ length problem.graph.latencies = once-short problem.graph is.is_problem.graph c.start c.start (e ∷ circuit) c.closed c.once in
    let few : length problem.graph.latencies ≤ 128 = is.is_problem.graph.few in
    omega arith

timed-one : (problem : ProblemData) → IsProblem problem → (e : EdgeData) → Contains problem.graph.edges e → IsTimed problem.loop problem.graph.latencies e
timed-one problem is e there = record {
  all = is.is_problem.each_latency ∙ is.each_operation;
  short = is.is_problem.graph.latencies;
  dependence = All-contains (Dependence problem.loop problem.graph.latencies) problem.graph.edges e is.sound there;
}

pub circuit-timed : (problem : ProblemData) (bound : ℕ) (circuit : List EdgeData) → IsProblem problem → IsCritical problem.graph.edges bound circuit
    → All (IsTimed problem.loop problem.graph.latencies) circuit
circuit-timed problem bound [] is c = λ k d h. absurd (omega arith)
circuit-timed problem bound (e ∷ circuit) is c = λ k d h. timed-one problem is (get_or (e ∷ circuit) k d) (walked problem.graph.edges c.start c.start (e ∷ circuit) c.closed k d h)

-- the circuit that was found for a problem's graph and bound
pub critical-of : (problem : ProblemData) (graph : GraphData) (bound : ℕ) (circuit : List EdgeData) → graph ≡ problem.graph → bound ≡ problem.recurrences
    → IsCritical graph.edges bound circuit → IsCritical problem.graph.edges problem.recurrences circuit
critical-of problem graph bound circuit same is c =
    subst (λ (g : GraphData). IsCritical g.edges problem.recurrences circuit) same (subst (λ (b : ℕ). IsCritical graph.edges b circuit) is c)

-- the lines of the circuit that was found
pub circuit-part : (free : Bool) (p : ProblemData) (loop : LoopData) (graph : GraphData) (bound : ℕ) (items one circuit : List EdgeData) (old mid new : List ℕ) → loop ≡ p.loop → graph ≡ p.graph
    → bound ≡ p.recurrences → one ≡ items → circuit ≡ items → free ≡ (length items == 0) → IsCritical graph.edges bound items → mid ≡ old ++ circuit_line one bound
    → ((lines : List ℕ) × AreTexts (IsOfKind loop graph.latencies) (edge_line loop) circuit lines × (new ≡ mid ++ lines))
    → (part : List ℕ) × (text : IsCircuitText p part) × (free ≡ (length text.circuit == 0)) × (new ≡ old ++ part)
circuit-part free p loop graph bound items one circuit old mid new same_loop same_graph same_bound first second lone critical head edges = (
  circuit_line items p.recurrences ++ edges.0,
  record {
    circuit = items;
    critical = critical-of p graph bound items same_graph same_bound critical;
    edge_lines = edges.0;
    are_edge_lines = subst (λ (l : LoopData). AreTexts (IsOfKind l p.graph.latencies) (edge_line l) items edges.0) same_loop
        (subst (λ (g : GraphData). AreTexts (IsOfKind loop g.latencies) (edge_line loop) items edges.0) same_graph
        (subst (λ (es : List EdgeData). AreTexts (IsOfKind loop graph.latencies) (edge_line loop) es edges.0) second edges.1));
    is_text = refl;
  },
  lone,
  two_pushed old (circuit_line items p.recurrences) edges.0 mid new
      (head ∙ ap (λ (es : List EdgeData). old ++ circuit_line es bound) first ∙ ap (λ (b : ℕ). old ++ circuit_line items b) same_bound) edges.2,
)
