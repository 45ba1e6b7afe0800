-- The operations of a loop, each with its alternatives.
use Rattle.std.proofs.Common.{◌≡◌, ℕ, ◌<◌, cond, List, [], ◌∷◌, length, get_or, map, refl, sym, ap, ◌∙◌, arith, Option, Some, None}
use Rattle.std.proofs.lemmas.List.{get_or-map, length-map}
use Rattle.std.proofs.lemmas.List.Elements.{All-cons, All-nil}
use Rattle.std.specs.List.{find, All}
use Rattle.std.specs.Option.{is_none}
use Rattle.machine_data.specs.declared.alternative.Row.{Row}
use Rattle.machine_data.specs.declared.opcode.Opcode.{Opcode}
use Rattle.machine_data.specs.Alternative.{AreAlternatives}
use Rattle.machine_data.specs.Machines.{MachineData, OperationData, IsMachine, table_of}
use Rattle.loop_data.specs.declared.language.statement.Statement.{Statement}
use Rattle.loop_data.specs.Loops.{LoopData}
use Rattle.graph.specs.Units.{opcodes_of, operations_of, alternatives_in, first_without_table}

-- the operation of a statement of a loop
pub operation_at : (machine : MachineData) (loop : LoopData) (i : ℕ) (s : Statement) → i < length loop.statements → s ≡ get_or loop.statements i s
    → (i < length (operations_of machine loop)) × (get_or (operations_of machine loop) i [] ≡ alternatives_in (table_of machine s.opcode))
operation_at machine loop i s within is =
    let f : Opcode → List (List Row) = λ opcode. alternatives_in (table_of machine opcode) in
    let g : Statement → Opcode = λ s. s.opcode in
    let short : length (opcodes_of loop) ≡ length loop.statements = length-map loop.statements g in
    let long : length (operations_of machine loop) ≡ length (opcodes_of loop) = length-map (opcodes_of loop) f in
    let there : i < length (opcodes_of loop) = omega arith in (
      omega arith,
      get_or-map f (opcodes_of loop) i s.opcode [] there ∙ ap f (get_or-map g loop.statements i s s.opcode within ∙ ap g (sym is)),
    )

pub length-operations : (machine : MachineData) (loop : LoopData) → length (operations_of machine loop) ≡ length loop.statements
length-operations machine loop =
    length-map (opcodes_of loop) (λ opcode. alternatives_in (table_of machine opcode)) ∙ length-map loop.statements (λ (s : Statement). s.opcode)

-- what is known of the operations of a loop that has all its tables
go_table : (machine : MachineData) → IsMachine machine → (opcode : Opcode) (t : Option OperationData) (rest : Option Opcode) → table_of machine opcode ≡ t
    → cond (is_none t) (Some opcode) rest ≡ None → AreAlternatives (alternatives_in t) × (rest ≡ None)
go_table machine m opcode None rest is h = cc
go_table machine m opcode (Some table) rest is h = ((m.tables opcode table is).0.alternatives, h)

tables_all : (machine : MachineData) → IsMachine machine → (opcodes : List Opcode) → find (λ opcode. is_none (table_of machine opcode)) opcodes ≡ None
    → All AreAlternatives (map (λ opcode. alternatives_in (table_of machine opcode)) opcodes)
tables_all machine m [] h = All-nil AreAlternatives
tables_all machine m (opcode ∷ opcodes) h =
    let here = go_table machine m opcode (table_of machine opcode) (find (λ o. is_none (table_of machine o)) opcodes) refl h in
    All-cons AreAlternatives (alternatives_in (table_of machine opcode)) (map (λ o. alternatives_in (table_of machine o)) opcodes) here.0
    (tables_all machine m opcodes here.1)

pub operations_well_formed : (machine : MachineData) (loop : LoopData) → IsMachine machine → first_without_table machine loop ≡ None → All AreAlternatives (operations_of machine loop)
operations_well_formed machine loop m h = tables_all machine m (opcodes_of loop) h
