-- The latencies of a loop's operations, one after another.
use Rattle.std.proofs.Common.{◌≡◌, ℕ, ◌+◌, ◌<◌, Bool, cond, List, [], ◌∷◌, ◌++◌, length, get_or, take, drop, refl, sym, ap, ◌∙◌, arith, Option, Some, None, Ok}
use Rattle.std.proofs.lemmas.List.{drop_more, take_more, get_or-map, length-map}
use Rattle.std.specs.List.{find}
use Rattle.std.specs.Option.{is_none}
use Rattle.machine_data.specs.declared.opcode.Opcode.{Opcode}
use Rattle.machine_data.specs.Machines.{MachineData, OperationData, table_of}
use Rattle.loop_data.specs.declared.language.statement.Statement.{Statement}
use Rattle.loop_data.specs.Loops.{LoopData}
use Rattle.graph.specs.TablesAnswer.{TablesAnswer}
use Rattle.graph.specs.Units.{opcodes_of, first_without_table}
use Rattle.graph.specs.Dependences.{latencies_of, latency_in}

-- from a statement on, the first opcode without a table is that statement's or a later one
find_here : (machine : MachineData) (loop : LoopData) (i : ℕ) (s : Statement) (t : Option OperationData) → i < length loop.statements → s ≡ get_or loop.statements i s
    → table_of machine s.opcode ≡ t
    → find (λ opcode. is_none (table_of machine opcode)) (drop i (opcodes_of loop))
    ≡ cond (is_none t) (Some s.opcode) (find (λ opcode. is_none (table_of machine opcode)) (drop (i + 1) (opcodes_of loop)))
find_here machine loop i s t within is table =
    let p : Opcode → Bool = λ opcode. is_none (table_of machine opcode) in
    let f : Statement → Opcode = λ s. s.opcode in
    let short : length (opcodes_of loop) ≡ length loop.statements = length-map loop.statements f in
    let there : i < length (opcodes_of loop) = omega arith in
    let here : get_or (opcodes_of loop) i s.opcode ≡ s.opcode = get_or-map f loop.statements i s s.opcode within ∙ ap f (sym is) in
    ap (find p) (drop_more (opcodes_of loop) i s.opcode there) ∙ ap (λ o. find p (o ∷ drop (i + 1) (opcodes_of loop))) here
    ∙ ap (λ o. cond (is_none o) (Some s.opcode) (find p (drop (i + 1) (opcodes_of loop)))) table

pub find-passed : (machine : MachineData) (loop : LoopData) (i : ℕ) (s : Statement) (t : OperationData) → i < length loop.statements → s ≡ get_or loop.statements i s
    → Some t ≡ table_of machine s.opcode → find (λ opcode. is_none (table_of machine opcode)) (drop i (opcodes_of loop)) ≡ first_without_table machine loop
    → find (λ opcode. is_none (table_of machine opcode)) (drop (i + 1) (opcodes_of loop)) ≡ first_without_table machine loop
find-passed machine loop i s t within is table h = sym (find_here machine loop i s (Some t) within is (sym table)) ∙ h

pub find-missing : (machine : MachineData) (loop : LoopData) (i : ℕ) (s : Statement) → i < length loop.statements → s ≡ get_or loop.statements i s
    → None ≡ table_of machine s.opcode → find (λ opcode. is_none (table_of machine opcode)) (drop i (opcodes_of loop)) ≡ first_without_table machine loop
    → Some s.opcode ≡ first_without_table machine loop
find-missing machine loop i s within is table h = sym (find_here machine loop i s None within is (sym table)) ∙ h

pub take-latency : (machine : MachineData) (loop : LoopData) (i : ℕ) (s : Statement) (t : OperationData) (list : List ℕ) (l : ℕ) → i < length loop.statements
    → s ≡ get_or loop.statements i s → Some t ≡ table_of machine s.opcode → l ≡ t.latency → list ≡ take i (latencies_of machine loop)
    → list ++ l ∷ [] ≡ take (i + 1) (latencies_of machine loop)
take-latency machine loop i s t list l within is table lat h =
    let f : Statement → ℕ = λ s. latency_in (table_of machine s.opcode) in
    let long : length (latencies_of machine loop) ≡ length loop.statements = length-map loop.statements f in
    let there : i < length (latencies_of machine loop) = omega arith in
    let here : get_or (latencies_of machine loop) i 0 ≡ l
    = get_or-map f loop.statements i s 0 within ∙ ap f (sym is) ∙ ap latency_in (sym table) ∙ sym lat in
    ap (λ x. x ++ l ∷ []) h ∙ ap (λ x. take i (latencies_of machine loop) ++ x ∷ []) (sym here) ∙ sym (take_more (latencies_of machine loop) i 0 there)

pub length-latencies : (machine : MachineData) (loop : LoopData) → length (latencies_of machine loop) ≡ length loop.statements
length-latencies machine loop = length-map loop.statements (λ s. latency_in (table_of machine s.opcode))

-- what an answer tells
pub answered : {A : Type 0} (missing : Option Opcode) (P : A → Type 0) (v : A) → TablesAnswer missing P (Ok v) → (missing ≡ None) × P v
answered (Some opcode) P v h = cc
answered None P v h = (refl, h)
