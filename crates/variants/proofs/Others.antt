-- What variants of a machine leave as it is.
use Rattle.std.proofs.Common.{◌≡◌, ℕ, Bool, true, false, cond, List, [], ◌∷◌, ◌++◌, length, map, filter, refl, sym, ap, ◌∙◌, subst}
use Rattle.std.specs.Prelude.{Option, Some, None, is_none, option_map, find}
use Rattle.std.specs.List.{list_any}
use Rattle.std.proofs.lemmas.Bool.{or_parts}
use Rattle.std.proofs.lemmas.List.{append-nil}
use Rattle.machine_data.specs.declared.alternative.Row.{Row}
use Rattle.machine_data.specs.declared.opcode.Opcode.{Opcode}
use Rattle.machine_data.specs.Machines.{MachineData, OperationData, table_of}
use Rattle.loop_data.specs.declared.language.statement.Statement.{Statement}
use Rattle.loop_data.specs.Loops.{LoopData}
use Rattle.graph.specs.Dependences.{latencies_of, latency_in}
use Rattle.graph.specs.Units.{alternatives_in, first_without_table, opcodes_of, operations_of}
use Rattle.loop_schedules.specs.Problems.{IsProblem, ProblemData}
use Rattle.loop_schedules.proofs.problems.OneProblems.{one-problem}
use Rattle.loop_listings.specs.declared.choices.Choice.{Choice}
use Rattle.loop_listings.specs.declared.choices.Choice.TheVariants as choice
use Rattle.candidates.proofs.OneChoices.{one_choice}
use Rattle.machine_variants.specs.declared.variant.Variant.{Variant}
use Rattle.machine_variants.specs.declared.variant.Variant.TheVariants.{Doubled, Shortened, Registers}
use Rattle.machine_variants.specs.Variants.{concerns, doubled_table, is_opcode, moved, shortened_table, shortened_where, takes, varied, with_copies}
use Rattle.machine_variants.proofs.OfOpcodes.{table-at}
use Rattle.variants.specs.Intervals.{IsIntervalOf, IsIntervalOn, OneInterval, OthersChangeNothing}

-- each opcode that has a table has one on each variant

none-mapped : (f : OperationData → OperationData) (found : Option OperationData) → is_none (option_map f found) ≡ is_none found
none-mapped f None = refl
none-mapped f (Some t) = refl

none-where : (here : Bool) (found : Option OperationData) → is_none (shortened_where here found) ≡ is_none found
none-where true found = none-mapped shortened_table found
none-where false found = refl

none-varied : (variant : Variant) (machine : MachineData) (opcode : Opcode) → is_none (table_of (varied variant machine) opcode) ≡ is_none (table_of machine opcode)
none-varied (Doubled unit) machine opcode =
    ap is_none (table-at (λ o. option_map (doubled_table unit (length machine.units)) (table_of machine o)) opcode)
    ∙ none-mapped (doubled_table unit (length machine.units)) (table_of machine opcode)
none-varied (Shortened other) machine opcode =
    ap is_none (table-at (λ o. shortened_where (is_opcode o other) (table_of machine o)) opcode) ∙ none-where (is_opcode opcode other) (table_of machine opcode)
none-varied (Registers number) machine opcode = refl

find-agree : (p q : Opcode → Bool) → ((o : Opcode) → p o ≡ q o) → (xs : List Opcode) → find p xs ≡ find q xs
find-agree p q same xs = λ i. find (λ o. same o i) xs

pub tables-varied : (variant : Variant) (machine : MachineData) (loop : LoopData) → first_without_table machine loop ≡ None → first_without_table (varied variant machine) loop ≡ None
tables-varied variant machine loop none =
    find-agree (λ o. is_none (table_of (varied variant machine) o)) (λ o. is_none (table_of machine o)) (none-varied variant machine) (opcodes_of loop) ∙ none

-- a variant that does not concern a loop

filter-none : (p : List Row → Bool) (xs : List (List Row)) → list_any p xs ≡ false → filter p xs ≡ []
filter-none p [] none = refl
filter-none p (x ∷ xs) none =
    let both = or_parts (p x) (list_any p xs) none in
    ap (λ b. cond b (x ∷ filter p xs) (filter p xs)) both.0 ∙ filter-none p xs both.1

same-copies : (unit new : ℕ) (alternatives : List (List Row)) → list_any (takes unit) alternatives ≡ false → with_copies unit new alternatives ≡ alternatives
same-copies unit new alternatives none = ap (λ xs. alternatives ++ map (moved unit new) xs) (filter-none (takes unit) alternatives none) ∙ append-nil alternatives

doubled-alternatives : (unit new : ℕ) (found : Option OperationData) → list_any (takes unit) (alternatives_in found) ≡ false
    → alternatives_in (option_map (doubled_table unit new) found) ≡ alternatives_in found
doubled-alternatives unit new None none = refl
doubled-alternatives unit new (Some t) none = same-copies unit new t.alternatives none

doubled-latency : (unit new : ℕ) (found : Option OperationData) → latency_in (option_map (doubled_table unit new) found) ≡ latency_in found
doubled-latency unit new None = refl
doubled-latency unit new (Some t) = refl

shortened-alternatives : (here : Bool) (found : Option OperationData) → alternatives_in (shortened_where here found) ≡ alternatives_in found
shortened-alternatives true None = refl
shortened-alternatives true (Some t) = refl
shortened-alternatives false found = refl

-- lists that agree at each statement that does not pass a test
map-agree : {A : Type 0} (p : Statement → Bool) (f g : Statement → A) → ((s : Statement) → p s ≡ false → f s ≡ g s) → (xs : List Statement) → list_any p xs ≡ false → map f xs ≡ map g xs
map-agree p f g same [] none = refl
map-agree p f g same (x ∷ xs) none =
    let both = or_parts (p x) (list_any p xs) none in
    λ i. same x both.0 i ∷ map-agree p f g same xs both.1 i

map-map : {A : Type 0} (f : Opcode → A) (xs : List Statement) → map f (map (λ (s : Statement). s.opcode) xs) ≡ map (λ (s : Statement). f s.opcode) xs
map-map f [] = refl
map-map f (x ∷ xs) = ap (λ ys. f x.opcode ∷ ys) (map-map f xs)

-- what a variant keeps of the operations of a loop
pub record Keeps (machine other : MachineData) (loop : LoopData) : Type 0 where
  pub latencies : latencies_of other loop ≡ latencies_of machine loop
  pub operations : operations_of other loop ≡ operations_of machine loop

keeps-by : (machine other : MachineData) (loop : LoopData) (p : Statement → Bool) → ((s : Statement) → p s ≡ false → latency_in (table_of other s.opcode) ≡ latency_in (table_of machine s.opcode))
    → ((s : Statement) → p s ≡ false → alternatives_in (table_of other s.opcode) ≡ alternatives_in (table_of machine s.opcode)) → list_any p loop.statements ≡ false → Keeps machine other loop
keeps-by machine other loop p latency alternatives none =
    let before : Opcode → List (List Row) = λ o. alternatives_in (table_of machine o) in
    let after : Opcode → List (List Row) = λ o. alternatives_in (table_of other o) in
    record {
      latencies = map-agree p (λ (s : Statement). latency_in (table_of other s.opcode)) (λ (s : Statement). latency_in (table_of machine s.opcode)) latency loop.statements none;
      operations = map-map after loop.statements ∙ map-agree p (λ (s : Statement). after s.opcode) (λ (s : Statement). before s.opcode) alternatives loop.statements none
          ∙ sym (map-map before loop.statements);
    }

keeps-doubled : (machine : MachineData) (loop : LoopData) (unit : ℕ) → concerns machine loop (Doubled unit) ≡ false → Keeps machine (varied (Doubled unit) machine) loop
keeps-doubled machine loop unit none =
    let new = length machine.units in
    let f : Opcode → Option OperationData = λ o. option_map (doubled_table unit new) (table_of machine o) in
    keeps-by machine (varied (Doubled unit) machine) loop (λ (s : Statement). list_any (takes unit) (alternatives_in (table_of machine s.opcode)))
    (λ s free. ap latency_in (table-at f s.opcode) ∙ doubled-latency unit new (table_of machine s.opcode))
    (λ s free. ap alternatives_in (table-at f s.opcode) ∙ doubled-alternatives unit new (table_of machine s.opcode) free) none

keeps-shortened : (machine : MachineData) (loop : LoopData) (opcode : Opcode) → concerns machine loop (Shortened opcode) ≡ false → Keeps machine (varied (Shortened opcode) machine) loop
keeps-shortened machine loop opcode none =
    let f : Opcode → Option OperationData = λ o. shortened_where (is_opcode o opcode) (table_of machine o) in
    keeps-by machine (varied (Shortened opcode) machine) loop (λ (s : Statement). is_opcode s.opcode opcode)
    (λ s other. ap latency_in (table-at f s.opcode) ∙ ap (λ b. latency_in (shortened_where b (table_of machine s.opcode))) other)
    (λ s other. ap alternatives_in (table-at f s.opcode) ∙ shortened-alternatives (is_opcode s.opcode opcode) (table_of machine s.opcode)) none

kept : (machine other : MachineData) (loop : LoopData) (ratio ceiling : ℕ) (interval : Option ℕ) → other.registers ≡ machine.registers → Keeps machine other loop
    → IsIntervalOn machine loop ratio ceiling interval → IsIntervalOn other loop ratio ceiling interval
kept machine other loop ratio ceiling interval registers keeps is = record {
  problem = is.problem;
  is_problem = record {
    is_problem = is.is_problem.is_problem;
    same_loop = is.is_problem.same_loop;
    latencies = is.is_problem.latencies ∙ sym keeps.latencies;
    alternatives = is.is_problem.alternatives ∙ sym keeps.operations;
    same_registers = is.is_problem.same_registers ∙ sym registers;
    same_ratio = is.is_problem.same_ratio;
    same_ceiling = is.is_problem.same_ceiling;
  };
  is_interval = is.is_interval;
}

pub others-change-nothing : OthersChangeNothing
others-change-nothing machine loop ratio ceiling (Doubled unit) interval none is =
    kept machine (varied (Doubled unit) machine) loop ratio ceiling interval refl (keeps-doubled machine loop unit none) is
others-change-nothing machine loop ratio ceiling (Shortened opcode) interval none is =
    kept machine (varied (Shortened opcode) machine) loop ratio ceiling interval refl (keeps-shortened machine loop opcode none) is
others-change-nothing machine loop ratio ceiling (Registers number) interval none is = cc

-- one interval

abbrev interval_in : Choice → Option ℕ
interval_in (choice.Met ii kernel) = Some ii
interval_in (choice.Failed cause) = None

one-of : (p : ProblemData) (one other : Option ℕ) → IsProblem p → IsIntervalOf p one → IsIntervalOf p other → one ≡ other
one-of p (Some i) (Some j) is a b = ap interval_in (one_choice p (choice.Met i a.0) (choice.Met j b.0) is a.1 b.1)
one-of p (Some i) None is a b = ap interval_in (one_choice p (choice.Met i a.0) (choice.Failed b.0) is a.1 b.1)
one-of p None (Some j) is a b = ap interval_in (one_choice p (choice.Failed a.0) (choice.Met j b.0) is a.1 b.1)
one-of p None None is a b = refl

pub one-interval : OneInterval
one-interval machine loop ratio ceiling one other a b =
    let same : b.problem ≡ a.problem = one-problem machine loop ratio ceiling b.problem a.problem b.is_problem a.is_problem in
    one-of a.problem one other a.is_problem.is_problem a.is_interval (subst (λ q. IsIntervalOf q other) same b.is_interval)
