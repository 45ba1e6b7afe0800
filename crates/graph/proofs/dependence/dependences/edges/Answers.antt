use Rattle.std.proofs.Common.{◌≡◌, ℕ, ◌<◌, Vec, Global, length, Ok, sym, ap, ◌∙◌, subst}
use Rattle.std.specs.List.{All, Contains}
use Rattle.loop_data.specs.declared.language.statement.Statement.{Statement}
use Rattle.graph.specs.TablesAnswer.{TablesAnswer}
use Rattle.graph.specs.Units.{first_without_table}
use Rattle.edges.specs.Edges.{EdgeData}
use Rattle.graph.specs.Dependences.{latencies_of}
use Rattle.graph.specs.Graphs.{IsGraphOf}
use Rattle.graph.specs.Subscripts.{IsFound, ReadsBelow}
use Rattle.graph.proofs.finding.Latencies.{answered, length-latencies}
use Rattle.graph.proofs.finding.GraphOf.{reads-below, graph-well_formed, graph-of_loop, sources-below}
use Rattle.graph.proofs.dependence.dependences.edges.Goals as goal

pub collect-requires-clause-reads : goal.collect-requires-clause-reads
collect-requires-clause-reads c =
    let told = answered (first_without_table c.args.machine.now c.args.innermost.now) (λ (v : Vec ℕ Global). v.items ≡ latencies_of c.args.machine.now c.args.innermost.now)
    c.in_ok-cycles.cycles c.in_ok-cycles.ensures.exact in
    let long : length c.as_slice.result.now ≡ length c.args.innermost.now.statements
    = ap length (c.as_slice.ensures.value ∙ told.1) ∙ length-latencies c.args.machine.now c.args.innermost.now in
    subst (λ l. All (λ (s : Statement). All (ReadsBelow (length c.as_slice.result.now)) s.operands) l) (sym c.statements.ensures.value)
    (reads-below c.args.innermost.now (length c.as_slice.result.now) c.statements.ensures.well_formed long)

pub in_order-requires-clause-ends : goal.in_order-requires-clause-ends
in_order-requires-clause-ends c =
    let told = answered (first_without_table c.args.machine.now c.args.innermost.now) (λ (v : Vec ℕ Global). v.items ≡ latencies_of c.args.machine.now c.args.innermost.now)
    c.in_ok-cycles.cycles c.in_ok-cycles.ensures.exact in
    let long : length c.in_ok-cycles.cycles.items ≡ length c.args.innermost.now.statements
    = ap length told.1 ∙ length-latencies c.args.machine.now c.args.innermost.now in
    let found : All (IsFound c.args.innermost.now.statements c.in_ok-cycles.cycles.items) c.in_ok-list.list.items
    = subst (λ l. All (IsFound c.args.innermost.now.statements l) c.in_ok-list.list.items) c.as_slice.ensures.value
    (subst (λ l. All (IsFound l c.as_slice.result.now) c.in_ok-list.list.items) c.statements.ensures.value c.in_ok-list.ensures.sound) in
    let count : c.len.result ≡ length c.in_ok-cycles.cycles.items = c.len.ensures ∙ c.in_ok-cycles.cycles.ok.0 in
    subst (λ l. All (λ (e : EdgeData). e.from < c.len.result) l) (sym c.as_slice-2.ensures.value)
    (subst (λ n. All (λ (e : EdgeData). e.from < n) c.in_ok-list.list.items) (sym count)
    (sources-below c.args.innermost.now c.in_ok-cycles.cycles.items c.in_ok-list.list.items c.statements.ensures.well_formed c.in_ok-cycles.ensures.short long found))

pub new-requires : goal.new-requires
new-requires c =
    let told = answered (first_without_table c.args.machine.now c.args.innermost.now) (λ (v : Vec ℕ Global). v.items ≡ latencies_of c.args.machine.now c.args.innermost.now)
    c.in_ok-cycles.cycles c.in_ok-cycles.ensures.exact in
    let long : length c.in_ok-cycles.cycles.items ≡ length c.args.innermost.now.statements
    = ap length told.1 ∙ length-latencies c.args.machine.now c.args.innermost.now in
    let found : All (IsFound c.args.innermost.now.statements c.in_ok-cycles.cycles.items) c.in_ok-list.list.items
    = subst (λ l. All (IsFound c.args.innermost.now.statements l) c.in_ok-list.list.items) c.as_slice.ensures.value
    (subst (λ l. All (IsFound l c.as_slice.result.now) c.in_ok-list.list.items) c.statements.ensures.value c.in_ok-list.ensures.sound) in
    let no_more : (e : EdgeData) → Contains c.in_ok-ordered.ordered.items e → Contains c.in_ok-list.list.items e
    = subst (λ l. (e : EdgeData) → Contains c.in_ok-ordered.ordered.items e → Contains l e) c.as_slice-2.ensures.value c.in_ok-ordered.ensures.no_more in
    graph-well_formed c.args.innermost.now c.in_ok-cycles.cycles.items c.in_ok-list.list.items c.in_ok-ordered.ordered.items c.statements.ensures.well_formed
    c.in_ok-cycles.ensures.short long found c.in_ok-ordered.ensures.ascending no_more

pub returns : goal.returns
returns c =
    let told = answered (first_without_table c.args.machine.now c.args.innermost.now) (λ (v : Vec ℕ Global). v.items ≡ latencies_of c.args.machine.now c.args.innermost.now)
    c.in_ok-cycles.cycles c.in_ok-cycles.ensures.exact in
    let found : All (IsFound c.args.innermost.now.statements c.in_ok-cycles.cycles.items) c.in_ok-list.list.items
    = subst (λ l. All (IsFound c.args.innermost.now.statements l) c.in_ok-list.list.items) c.as_slice.ensures.value
    (subst (λ l. All (IsFound l c.as_slice.result.now) c.in_ok-list.list.items) c.statements.ensures.value c.in_ok-list.ensures.sound) in
    let every : (e : EdgeData) → IsFound c.args.innermost.now.statements c.in_ok-cycles.cycles.items e → Contains c.in_ok-list.list.items e
    = subst (λ l. (e : EdgeData) → IsFound c.args.innermost.now.statements l e → Contains c.in_ok-list.list.items e) c.as_slice.ensures.value
    (subst (λ l. (e : EdgeData) → IsFound l c.as_slice.result.now e → Contains c.in_ok-list.list.items e) c.statements.ensures.value c.in_ok-list.ensures.complete) in
    let no_more : (e : EdgeData) → Contains c.in_ok-ordered.ordered.items e → Contains c.in_ok-list.list.items e
    = subst (λ l. (e : EdgeData) → Contains c.in_ok-ordered.ordered.items e → Contains l e) c.as_slice-2.ensures.value c.in_ok-ordered.ensures.no_more in
    let kept : (e : EdgeData) → Contains c.in_ok-list.list.items e → Contains c.in_ok-ordered.ordered.items e
    = subst (λ l. (e : EdgeData) → Contains l e → Contains c.in_ok-ordered.ordered.items e) c.as_slice-2.ensures.value c.in_ok-ordered.ensures.kept in
    let of_loop : IsGraphOf c.args.machine.now c.args.innermost.now (record { edges = c.in_ok-ordered.ordered.items; latencies = c.in_ok-cycles.cycles.items })
    = graph-of_loop c.args.machine.now c.args.innermost.now c.in_ok-cycles.cycles.items c.in_ok-list.list.items c.in_ok-ordered.ordered.items told.1 found every
    c.in_ok-ordered.ensures.ascending kept no_more in
    record {
      exact = subst (λ missing. TablesAnswer missing (IsGraphOf c.args.machine.now c.args.innermost.now) (Ok c.in_ok-new.field-0)) (sym told.0)
          (subst (IsGraphOf c.args.machine.now c.args.innermost.now) (sym c.in_ok-new.ensures) of_loop);
    }
