use Rattle.std.proofs.Common.{◌≡◌, ℕ, ◌<◌, ◌≤◌, Vec, Global, length, get_or, Err, refl, ap, ◌∙◌, subst, arith}
use Rattle.std.proofs.lemmas.List.Elements.{All-push}
use Rattle.graph.specs.declared.fault.GraphFault.TheVariants.{NoTable}
use Rattle.graph.specs.Dependences.{latencies_of}
use Rattle.graph.specs.TablesAnswer.{TablesAnswer}
use Rattle.graph.proofs.finding.Latencies.{find-passed, find-missing, take-latency}
use Rattle.graph.proofs.dependence.dependences.latencies.Goals as goal

pub returns-in-None-clause-exact : goal.returns-in-None-clause-exact
returns-in-None-clause-exact c =
    let value = c.statements-statement-items.ensures.value in
    let within : c.loop-statement.statement-index < length c.args.innermost.now.statements = omega (arith, ap length value) in
    let is : c.statement-item.result ≡ get_or c.args.innermost.now.statements c.loop-statement.statement-index c.statement-item.result
    = c.statement-item.is ∙ ap (λ l. get_or l c.loop-statement.statement-index c.statement-item.result) value in
    let first = find-missing c.args.machine.now c.args.innermost.now c.loop-statement.statement-index c.statement-item.result within is c.in-None.ensures.value c.loop-statement.invariant.0 in
    subst (λ missing. TablesAnswer {A = Vec ℕ Global} missing (λ v. v.items ≡ latencies_of c.args.machine.now c.args.innermost.now) (Err (NoTable c.statement-item.result.opcode))) first refl

pub loop-statement-preserved : goal.loop-statement-preserved
loop-statement-preserved c =
    let value = c.statements-statement-items.ensures.value in
    let within : c.loop-statement.statement-index < length c.args.innermost.now.statements = omega (arith, ap length value) in
    let is : c.statement-item.result ≡ get_or c.args.innermost.now.statements c.loop-statement.statement-index c.statement-item.result
    = c.statement-item.is ∙ ap (λ l. get_or l c.loop-statement.statement-index c.statement-item.result) value in
    rw c.in_ok-push-in-Some.ensures.items (
      find-passed c.args.machine.now c.args.innermost.now c.loop-statement.statement-index c.statement-item.result c.in-Some.table.now within is
          c.in-Some.ensures.value c.loop-statement.invariant.0,
      take-latency c.args.machine.now c.args.innermost.now c.loop-statement.statement-index c.statement-item.result c.in-Some.table.now c.loop-statement.cycles.items
          c.latency.result within is c.in-Some.ensures.value c.latency.ensures.value c.loop-statement.invariant.1,
      All-push (λ l. (0 < l) × (l ≤ 64)) c.loop-statement.cycles.items c.latency.result c.loop-statement.invariant.2 (c.latency.ensures.some, c.latency.ensures.few),
    )
