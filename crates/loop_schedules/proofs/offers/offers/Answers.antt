use Rattle.std.proofs.Common.{◌≡◌, ◌<◌, ◌⊎◌, ℕ, List, length, get_or, None, Some, Err, refl, sym, ap, ◌∙◌, subst, arith}
use Rattle.std.proofs.lemmas.List.Elements.{All-push}
use Rattle.machine_data.specs.declared.alternative.Row.{Row}
use Rattle.machine_data.specs.Alternative.{AreAlternatives}
use Rattle.machine_data.specs.Opcodes.{opcode_number}
use Rattle.graph.specs.declared.fault.GraphFault.TheVariants.{NoTable}
use Rattle.graph.specs.TablesAnswer.{TablesAnswer}
use Rattle.graph.specs.Units.{alternatives_in, operations_of}
use Rattle.graph.proofs.finding.Latencies.{find-passed, find-missing}
use Rattle.loop_schedules.specs.declared.offers.Offered.{Offered}
use Rattle.loop_schedules.specs.inner.Offers.{IsAlike}
use Rattle.loop_schedules.proofs.problems.Kinds.{at_number, kinds-more, noted-more}
use Rattle.loop_schedules.proofs.problems.Offered.{take-offered}
use Rattle.loop_schedules.proofs.offers.offers.Goals as goal

pub returns-in-None-clause-exact : goal.returns-in-None-clause-exact
returns-in-None-clause-exact c =
    let value = c.statements-statement-items.ensures.value in
    let within : c.loop-statement.statement-index < length c.args.innermost.now.statements = omega (arith, ap length value) in
    let is : c.statement-item.result ≡ get_or c.args.innermost.now.statements c.loop-statement.statement-index c.statement-item.result
    = c.statement-item.is ∙ ap (λ l. get_or l c.loop-statement.statement-index c.statement-item.result) value in
    let first = find-missing c.args.machine.now c.args.innermost.now c.loop-statement.statement-index c.statement-item.result within is c.in-None.ensures.value c.loop-statement.invariant.passed in
    subst (λ missing. TablesAnswer {A = Offered} missing (λ v. v.alternatives.items ≡ operations_of c.args.machine.now c.args.innermost.now) (Err (NoTable c.statement-item.result.opcode))) first refl

pub alike-requires-clause-there : goal.alike-requires-clause-there
alike-requires-clause-there c = λ number op at. rw (c.as_slice.ensures.value) (c.loop-statement.invariant.noted number op at).0

pub loop-statement-preserved : goal.loop-statement-preserved
loop-statement-preserved c =
    let value = c.statements-statement-items.ensures.value in
    let i = c.loop-statement.invariant in
    let machine = c.args.machine.now in
    let list : List (List (List Row)) = c.loop-statement.list.items in
    let within : c.loop-statement.statement-index < length c.args.innermost.now.statements = omega (arith, ap length value) in
    let is : c.statement-item.result ≡ get_or c.args.innermost.now.statements c.loop-statement.statement-index c.statement-item.result
    = c.statement-item.is ∙ ap (λ l. get_or l c.loop-statement.statement-index c.statement-item.result) value in
    let offered : List (List Row) = c.in_ok-copied-in-Some.field-0 in
    let same : offered ≡ c.in-Some.table.now.alternatives = c.in_ok-copied-in-Some.ensures ∙ c.alternatives-own.ensures in
    let number : ℕ = opcode_number c.statement-item.result.opcode in
    let there : number < length c.loop-statement.noted = c.alike.ensures.there in
    let stands : offered ≡ at_number machine.tables number = same ∙ ap alternatives_in c.in-Some.ensures.value in
    let told : (get_or c.loop-statement.noted number None ≡ Some c.alike.result) ⊎ IsAlike list offered c.alike.result
    = rw (c.in_ok-copied-in-Some.ensures) (subst (λ l. (get_or c.loop-statement.noted number None ≡ Some c.alike.result) ⊎ IsAlike l c.alternatives-own.result.now c.alike.result) c.as_slice.ensures.value c.alike.ensures.value) in
    let kinds = kinds-more machine.tables list c.loop-statement.noted number c.alike.result offered i.noted stands told c.loop-statement.kinds.items i.kinds in
    let noted = noted-more machine.tables list c.loop-statement.noted number c.alike.result offered i.noted stands told there in
    rw (c.in_ok-push-in-Some-2.ensures.items, c.in_ok-push-in-Some.ensures.items, c.alike.ensures.noted) record {
      passed = find-passed machine c.args.innermost.now c.loop-statement.statement-index c.statement-item.result c.in-Some.table.now within is c.in-Some.ensures.value i.passed;
      listed = take-offered machine c.args.innermost.now c.loop-statement.statement-index c.statement-item.result c.in-Some.table.now list
          offered within is c.in-Some.ensures.value same i.listed;
      offered = All-push AreAlternatives list offered i.offered
          (subst AreAlternatives (sym same) (c.in-Some.ensures.well_formed.tables c.statement-item.result.opcode c.in-Some.table.now (sym c.in-Some.ensures.value)).0.alternatives);
      kinds = kinds;
      noted = noted;
    }
