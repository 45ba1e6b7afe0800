use Rattle.std.proofs.Common.{◌+◌, ◌≤◌, ◌≡◌, ℕ, ◌<◌, eqb, List, [], length, filter, set, Some, sym, ap, ◌∙◌, subst, arith}
use Rattle.std.specs.List.{All, Contains}
use Rattle.std.proofs.lemmas.List.Elements.{All-filter, All-weaker}
use Rattle.edges.specs.Edges.{EdgeData}
use Rattle.edges.specs.Graphs.{GraphData}
use Rattle.mrt.specs.Placements.{OperationAlternatives, Placements, Placement, alternatives_of, rows_of, IsMetBy, IsFree}
use Rattle.modulo.specs.inner.Evictions.{StaysOr, IsBrokenAt, IsCutOff}
use Rattle.modulo.proofs.states.Placing.{still_free, times_grow, IsPlacing-from}
use Rattle.modulo.proofs.stepping.step.step.Goals as goal

pub cut-requires-clause-ends : goal.cut-requires-clause-ends
cut-requires-clause-ends g c =
    let graph : GraphData = c.edges.result.now in
    let n : ℕ = length (g.T.ModuloTable.operations c.settle-time.new.table) in
    let long : length graph.latencies ≡ n
    = ap (λ (g : GraphData). length g.latencies) c.edges.ensures.value ∙ c.edges.ensures.well_formed.each_latency ∙ sym (ap length (c.settle-time.ensures.operations ∙ c.requires.operations)) in
    let ends : All (λ (e : EdgeData). e.to < n) graph.edges
    = All-weaker (λ (e : EdgeData). (e.from < length graph.latencies) × (e.to < length graph.latencies)) (λ (e : EdgeData). e.to < n)
    (λ e h. subst (λ m. e.to < m) long h.1) graph.edges c.out_of.ensures.well_formed.ends in
    subst (All (λ (e : EdgeData). e.to < n)) (sym c.out_of.ensures.value)
    (All-filter (λ (e : EdgeData). eqb e.from c.args.op) (λ (e : EdgeData). e.to < n) graph.edges ends)

pub claim-requires-clause-free : goal.claim-requires-clause-free
claim-requires-clause-free g c =
    let ii : ℕ = g.T.ModuloTable.interval c.args.table.now in
    let operations : OperationAlternatives = c.args.problem.now.operations in
    let at : Placement = record { time = c.settle-time.result.0; alternative = c.settle-time.result.1 } in
    let cleared : Placements = g.T.ModuloTable.placed c.settle-time.new.table in
    let left : Placements = g.T.ModuloTable.placed c.cut.new.table in
    let edges : List EdgeData = filter (λ (e : EdgeData). eqb e.from c.args.op) c.args.problem.now.graph.edges in
    let out : c.out_of.result.now ≡ edges
    = c.out_of.ensures.value ∙ ap (λ (g : GraphData). filter (λ (e : EdgeData). eqb e.from c.args.op) g.edges) c.edges.ensures.value in
    let same : c.ii.result ≡ ii = c.ii.ensures ∙ c.settle-time.ensures.interval in
    let each_cleared : (q : ℕ) → StaysOr c.args.progress.now.state.placed cleared (IsMetBy ii operations c.args.progress.now.state.placed (rows_of operations c.args.op at.alternative) at.time) q
    = subst (λ (p : Placements). (q : ℕ) → StaysOr p cleared (IsMetBy ii operations p (rows_of operations c.args.op at.alternative) at.time) q) c.requires.tied c.settle-time.ensures.each in
    let each_left : (q : ℕ) → StaysOr cleared left (IsCutOff edges ii cleared c.args.op at.time) q
    = subst (λ es. (q : ℕ) → StaysOr cleared left (IsCutOff es ii cleared c.args.op at.time) q) out
    (subst (λ i. (q : ℕ) → StaysOr cleared left (IsCutOff c.out_of.result.now i cleared c.args.op at.time) q) same c.cut.ensures.each) in
    let within : c.args.op < length c.args.progress.now.state.placed = omega (arith, c.requires.there, c.requires.whole, ap length c.requires.tied) in
    let free : IsFree ii operations left c.args.op at.time at.alternative
    = still_free c.args.problem.now ii c.args.progress.now.state c.args.op at cleared left within each_cleared c.settle-time.ensures.free each_left in
    subst (λ i. IsFree i (g.T.ModuloTable.operations c.cut.new.table) left c.args.op at.time at.alternative) (sym (c.cut.ensures.interval ∙ c.settle-time.ensures.interval))
    (subst (λ (os : OperationAlternatives). IsFree ii os left c.args.op at.time at.alternative) (sym (c.cut.ensures.operations ∙ c.settle-time.ensures.operations ∙ c.requires.operations)) free)

pub returns-clause-step : goal.returns-clause-step
returns-clause-step g c =
    let ii : ℕ = g.T.ModuloTable.interval c.args.table.now in
    let operations : OperationAlternatives = c.args.problem.now.operations in
    let at : Placement = record { time = c.settle-time.result.0; alternative = c.settle-time.result.1 } in
    let cleared : Placements = g.T.ModuloTable.placed c.settle-time.new.table in
    let left : Placements = g.T.ModuloTable.placed c.cut.new.table in
    let edges : List EdgeData = filter (λ (e : EdgeData). eqb e.from c.args.op) c.args.problem.now.graph.edges in
    let out : c.out_of.result.now ≡ edges
    = c.out_of.ensures.value ∙ ap (λ (g : GraphData). filter (λ (e : EdgeData). eqb e.from c.args.op) g.edges) c.edges.ensures.value in
    let same : c.ii.result ≡ ii = c.ii.ensures ∙ c.settle-time.ensures.interval in
    let each_cleared : (q : ℕ) → StaysOr c.args.progress.now.state.placed cleared (IsMetBy ii operations c.args.progress.now.state.placed (rows_of operations c.args.op at.alternative) at.time) q
    = subst (λ (p : Placements). (q : ℕ) → StaysOr p cleared (IsMetBy ii operations p (rows_of operations c.args.op at.alternative) at.time) q) c.requires.tied c.settle-time.ensures.each in
    let each_left : (q : ℕ) → StaysOr cleared left (IsCutOff edges ii cleared c.args.op at.time) q
    = subst (λ es. (q : ℕ) → StaysOr cleared left (IsCutOff es ii cleared c.args.op at.time) q) out
    (subst (λ i. (q : ℕ) → StaysOr cleared left (IsCutOff c.out_of.result.now i cleared c.args.op at.time) q) same c.cut.ensures.each) in
    let within : c.args.op < length c.args.progress.now.state.placed = omega (arith, c.requires.there, c.requires.whole, ap length c.requires.tied) in
    let unbroken : (edge : EdgeData) → Contains edges edge → IsBrokenAt ii left c.args.op at.time edge → ⊥
    = subst (λ es. (edge : EdgeData) → Contains es edge → IsBrokenAt ii left c.args.op at.time edge → ⊥) out
    (subst (λ i. (edge : EdgeData) → Contains c.out_of.result.now edge → IsBrokenAt i left c.args.op at.time edge → ⊥) same c.cut.ensures.kept) in
    let whole : length left ≡ length c.args.progress.now.state.placed = c.cut.ensures.whole ∙ c.settle-time.ensures.whole ∙ ap length c.requires.tied in
    let placed : c.place.new.self.state.placed ≡ set left c.args.op (Some at) = c.place.ensures.placed ∙ ap (λ p. set p c.args.op (Some at)) (sym c.cut.ensures.tied) in
    let previous : c.place.new.self.state.previous ≡ set c.args.progress.now.state.previous c.args.op (Some at.time)
    = c.place.ensures.previous ∙ ap (λ p. set p c.args.op (Some at.time)) (c.cut.ensures.previous ∙ c.settle-time.ensures.previous) in
    IsPlacing-from c.args.problem.now ii c.args.progress.now.state c.args.op at cleared left within each_cleared c.settle-time.ensures.free each_left unbroken
    c.place.new.self.state c.settle-time.ensures.place whole placed previous

pub returns-clause-grown : goal.returns-clause-grown
returns-clause-grown g c = λ limit times.
    let ii : ℕ = g.T.ModuloTable.interval c.args.table.now in
    let operations : OperationAlternatives = c.args.problem.now.operations in
    let at : Placement = record { time = c.settle-time.result.0; alternative = c.settle-time.result.1 } in
    let cleared : Placements = g.T.ModuloTable.placed c.settle-time.new.table in
    let left : Placements = g.T.ModuloTable.placed c.cut.new.table in
    let edges : List EdgeData = filter (λ (e : EdgeData). eqb e.from c.args.op) c.args.problem.now.graph.edges in
    let out : c.out_of.result.now ≡ edges
    = c.out_of.ensures.value ∙ ap (λ (g : GraphData). filter (λ (e : EdgeData). eqb e.from c.args.op) g.edges) c.edges.ensures.value in
    let same : c.ii.result ≡ ii = c.ii.ensures ∙ c.settle-time.ensures.interval in
    let each_cleared : (q : ℕ) → StaysOr c.args.progress.now.state.placed cleared (IsMetBy ii operations c.args.progress.now.state.placed (rows_of operations c.args.op at.alternative) at.time) q
    = subst (λ (p : Placements). (q : ℕ) → StaysOr p cleared (IsMetBy ii operations p (rows_of operations c.args.op at.alternative) at.time) q) c.requires.tied c.settle-time.ensures.each in
    let each_left : (q : ℕ) → StaysOr cleared left (IsCutOff edges ii cleared c.args.op at.time) q
    = subst (λ es. (q : ℕ) → StaysOr cleared left (IsCutOff es ii cleared c.args.op at.time) q) out
    (subst (λ i. (q : ℕ) → StaysOr cleared left (IsCutOff c.out_of.result.now i cleared c.args.op at.time) q) same c.cut.ensures.each) in
    let within : c.args.op < length c.args.progress.now.state.placed = omega (arith, c.requires.there, c.requires.whole, ap length c.requires.tied) in
    let placed : c.place.new.self.state.placed ≡ set left c.args.op (Some at) = c.place.ensures.placed ∙ ap (λ p. set p c.args.op (Some at)) (sym c.cut.ensures.tied) in
    let previous : c.place.new.self.state.previous ≡ set c.args.progress.now.state.previous c.args.op (Some at.time)
    = c.place.ensures.previous ∙ ap (λ p. set p c.args.op (Some at.time)) (c.cut.ensures.previous ∙ c.settle-time.ensures.previous) in
    let new : at.time < limit + ii + 65 = c.settle-time.ensures.grown limit times in
    let le : limit ≤ limit + ii + 65 = omega arith in
    times_grow c.args.problem.now ii c.args.progress.now.state c.args.op at cleared left within each_cleared c.settle-time.ensures.free each_left
    limit (limit + ii + 65) c.place.new.self.state times le new placed previous

pub place-requires-clause-alternative : goal.place-requires-clause-alternative
place-requires-clause-alternative g c =
    let operations : OperationAlternatives = c.args.problem.now.operations in
    let offered = c.edges.ensures.well_formed.offered c.args.op [] c.requires.there in
    let there : c.settle-time.result.1 < length (alternatives_of operations c.args.op) = c.settle-time.ensures.free.there in
    let few : length (alternatives_of operations c.args.op) ≤ 16 = offered.few in
    omega arith
