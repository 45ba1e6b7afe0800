-- The alternatives of a loop's operations, one after another.
use Rattle.std.proofs.Common.{◌≡◌, ℕ, ◌+◌, ◌<◌, ◌≤◌, List, [], ◌∷◌, ◌++◌, length, get_or, take, refl, sym, ap, ◌∙◌, subst, arith, Some}
use Rattle.std.specs.List.{All}
use Rattle.std.proofs.lemmas.List.{take_more, get_or-map, length-map}
use Rattle.machine_data.specs.declared.alternative.Row.{Row}
use Rattle.machine_data.specs.declared.opcode.Opcode.{Opcode}
use Rattle.machine_data.specs.Machines.{MachineData, OperationData, IsMachine, table_of}
use Rattle.loop_data.specs.declared.language.statement.Statement.{Statement}
use Rattle.loop_data.specs.Loops.{LoopData, IsLoop}
use Rattle.graph.specs.Dependences.{Dependence}
use Rattle.edges.specs.Graphs.{GraphData}
use Rattle.graph.specs.Graphs.{IsGraphOf}
use Rattle.graph.specs.Units.{opcodes_of, operations_of, alternatives_in}
use Rattle.loop_schedules.specs.Problems.{IsProblemOf}
use Rattle.schedules.specs.Problems as problems

pub length-operations : (machine : MachineData) (loop : LoopData) → length (operations_of machine loop) ≡ length loop.statements
length-operations machine loop =
    length-map (opcodes_of loop) (λ (opcode : Opcode). alternatives_in (table_of machine opcode)) ∙ length-map loop.statements (λ (s : Statement). s.opcode)

pub take-offered : (machine : MachineData) (loop : LoopData) (i : ℕ) (s : Statement) (t : OperationData) (list : List (List (List Row))) (offered : List (List Row))
    → i < length loop.statements → s ≡ get_or loop.statements i s → Some t ≡ table_of machine s.opcode → offered ≡ t.alternatives
    → list ≡ take i (operations_of machine loop) → list ++ offered ∷ [] ≡ take (i + 1) (operations_of machine loop)
take-offered machine loop i s t list offered within is table same h =
    let f : Opcode → List (List Row) = λ opcode. alternatives_in (table_of machine opcode) in
    let g : Statement → Opcode = λ s. s.opcode in
    let there : i < length (operations_of machine loop) = omega (arith, length-operations machine loop) in
    let inner : i < length (opcodes_of loop) = omega (arith, length-map loop.statements g) in
    let here : get_or (operations_of machine loop) i [] ≡ offered
    = get_or-map f (opcodes_of loop) i s.opcode [] inner ∙ ap f (get_or-map g loop.statements i s s.opcode within ∙ ap g (sym is)) ∙ ap alternatives_in (sym table) ∙ sym same in
    ap (λ x. x ++ offered ∷ []) h ∙ ap (λ x. take i (operations_of machine loop) ++ x ∷ []) (sym here) ∙ sym (take_more (operations_of machine loop) i [] there)

-- a problem of the parts that are found for a machine and a loop
pub problem_of : (machine : MachineData) (loop : LoopData) (graph : GraphData) (operations : List (List (List Row))) (registers ratio ceiling : ℕ) (found : problems.ProblemData)
    → IsMachine machine → IsLoop loop → IsGraphOf machine loop graph → operations ≡ operations_of machine loop → registers ≡ machine.registers
    → problems.IsProblemOf graph operations ratio ceiling found
    → IsProblemOf machine loop ratio ceiling (record { loop = loop; graph = found.graph; operations = found.operations; registers = registers; resources = found.resources; recurrences = found.recurrences; ratio = found.ratio; ceiling = found.ceiling })
problem_of machine loop graph operations registers ratio ceiling found m l of offered same is =
    let has : IsGraphOf machine loop found.graph = subst (IsGraphOf machine loop) (sym is.same_graph) of in
    let all : found.operations ≡ operations_of machine loop = is.same_operations ∙ offered in
    let some_there : 0 < machine.registers = m.registers_some in
    let few_there : machine.registers ≤ 256 = m.registers_few in
    record {
      is_problem = record {
        loop = l;
        is_problem = is.is_problem;
        each_operation = ap length all ∙ length-operations machine loop;
        sound = subst (λ ls. All (Dependence loop ls) found.graph.edges) (sym has.latencies) has.sound;
        complete = λ e d. has.complete e (subst (λ ls. Dependence loop ls e) has.latencies d);
        registers_some = omega arith;
        registers_few = omega arith;
      };
      same_loop = refl;
      latencies = has.latencies;
      alternatives = all;
      same_registers = same;
      same_ratio = is.same_ratio;
      same_ceiling = is.same_ceiling;
    }
