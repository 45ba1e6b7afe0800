use Rattle.std.proofs.Common.{ℕ, ◌-◌, List, Option, Vec, Global, subst}
use Rattle.std.specs.Prelude.{MatchOption}
use Rattle.edges.specs.Edges.{EdgeData}
use Rattle.edges.specs.Graphs.{GraphData}
use Rattle.walks.specs.Walks.{FitsCircuits}
use Rattle.circuits.specs.Circuits.{IsCircuitAbove}
use Rattle.outcome_text.proofs.Circuits.{is-short}
use Rattle.outcome_text.proofs.circuit.circuit_of.Goals as goal

-- what a search for a circuit that does not fit an interval tells
abbrev Tells : List EdgeData → ℕ → Option (Vec EdgeData Global) → Type 0
Tells edges ii found = MatchOption found (FitsCircuits edges ii) (λ walk. IsCircuitAbove edges ii walk.items)

pub returns-clause-few : goal.returns-clause-few
returns-clause-few c =
    let p = c.args.scheduling.now in
    let walk = c.in-Some.circuit.items in
    let at_graph : IsCircuitAbove c.edges.result.now.edges (c.recurrences-bound.result - 1) walk
    = subst (Tells c.edges.result.now.edges (c.recurrences-bound.result - 1)) c.in-Some.is c.in_ok-circuit.ensures.exact in
    let at_bound : IsCircuitAbove p.graph.edges (c.recurrences-bound.result - 1) walk
    = subst (λ (g : GraphData). IsCircuitAbove g.edges (c.recurrences-bound.result - 1) walk) c.edges.ensures.value at_graph in
    is-short p walk c.recurrences-bound.ensures.well_formed (subst (λ bound. IsCircuitAbove p.graph.edges (bound - 1) walk) c.recurrences-bound.ensures.value at_bound)
