-- The alternatives of an operation.
use Rattle.std.proofs.Common.{◌≡◌, ℕ, ◌<◌, List, [], length, get_or, ap, ◌∙◌}
use Rattle.std.proofs.lemmas.List.{get_or_default}
use Rattle.machine_data.specs.Machines.{MachineData, table_of}
use Rattle.loop_data.specs.declared.language.statement.Statement.{Statement}
use Rattle.loop_data.specs.Loops.{LoopData}
use Rattle.graph.specs.Units.{alternatives_in, operations_of}
use Rattle.graph.proofs.finding.Operations.{operation_at}

-- the alternatives of the operation of a statement that is read from a list
pub operation-read : (machine : MachineData) (loop : LoopData) (statements : List Statement) (number : ℕ) (d : Statement) → statements ≡ loop.statements
    → number < length loop.statements → get_or (operations_of machine loop) number [] ≡ alternatives_in (table_of machine (get_or statements number d).opcode)
operation-read machine loop statements number d same there =
    let s : Statement = get_or statements number d in
    (operation_at machine loop number s there (ap (λ l. get_or l number d) same ∙ get_or_default loop.statements number d s there)).1
