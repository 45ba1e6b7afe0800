-- The kernel of a lawful schedule and a lawful allotment is well formed.
use Rattle.std.proofs.Common.{◌≡◌, ◌≢◌, ℕ, suc, zero, ◌+◌, ◌-◌, ◌/◌, ◌<◌, ◌≤◌, true, false, List, [], ◌∷◌, length, get_or, map, Option, Some, None, option_map, refl, sym, ap, ◌∙◌, subst, inl, inr, arith}
use Rattle.std.specs.Prelude.{slice_get, slice_index, is_some}
use Rattle.std.specs.List.{All, AllPairs, Contains}
use Rattle.std.proofs.lemmas.Bool.{cases_Bool, cond-true, cond-false}
use Rattle.std.proofs.lemmas.Int.{ints}
use Rattle.std.proofs.lemmas.List.{length-map}
use Rattle.std.proofs.lemmas.List.Elements.{All-contains, All-get_or, All-nil, All-cons, All-map, Contains-get_or}
use Rattle.std.proofs.Math.Nat.{mod-lt}
use Rattle.machine_data.specs.declared.opcode.Opcode.{Opcode}
use Rattle.machine_data.specs.declared.opcode.Opcode.TheVariants.{Load, Store}
use Rattle.loop_data.specs.declared.language.statement.Statement.{Statement}
use Rattle.loop_data.specs.declared.language.statement.Place.{Place}
use Rattle.loop_data.specs.declared.language.statement.Operand.{Operand}
use Rattle.loop_data.specs.declared.language.statement.Operand.TheVariants as operand
use Rattle.loop_data.specs.declared.language.lists.Array.{Array}
use Rattle.loop_data.specs.Loops.{HasShape, MayRead, IsStatement, GivesValue, HasInitial}
use Rattle.loop_data.specs.Run.{initial_of}
use Rattle.unit_bound.specs.Units.{greatest_of}
use Rattle.kernel.specs.declared.kernels.operation.Operation.{Operation}
use Rattle.kernel.specs.declared.kernels.operation.Address.{Address}
use Rattle.kernel.specs.declared.kernels.parts.Preload.{Preload}
use Rattle.kernel.specs.declared.kernels.parts.Out.{Out}
use Rattle.kernel.specs.Kernels.{HasOperationShape}
use Rattle.kernel.specs.Check.{SourceIsThere, RegistersAreThere, ParameterIsThere, IsShaped, AddressIsThere, IsPlaced}
use Rattle.overlap.specs.Allotments.{AllotmentData, allotted_number}
use Rattle.overlap.specs.Lifetimes.{carried, values_from, values_of}
use Rattle.loop_schedules.specs.Schedules.{ScheduleData, IsSchedule, stage_of, stages_of}
use Rattle.overlap.specs.Emission.{name_of, source_of, address_of, operation_of, operations_from, preloads_from, preloads_of, out_of, emitted}
use Rattle.overlap.specs.Overlap.{Belong, KernelsAreWellFormed}
use Rattle.overlap.proofs.in_registers.Different.{pairs-cons, pairs-nil, pairs-head, pairs-tail, pairs-flat, different-few}
use Rattle.overlap.proofs.in_registers.Lives.{greatest-of, greatest-reached, contains-map, contains-map_back}
use Rattle.loop_data.proofs.Instances.{slice_get-within}
use Rattle.overlap.proofs.in_registers.Preloaded.{preload-back, preloads-one, value-back, number-back}

-- each operation is of a statement

length-operations : (schedule : ScheduleData) (allotment : AllotmentData) (q : ℕ) (statements : List Statement) → length (operations_from schedule allotment q statements) ≡ length statements
length-operations schedule allotment q [] = refl
length-operations schedule allotment q (s ∷ statements) = ap suc (length-operations schedule allotment (q + 1) statements)

all-operations : (P : Operation → Type 0) (schedule : ScheduleData) (allotment : AllotmentData) (q : ℕ) (statements : List Statement)
    → ((k : ℕ) (s : Statement) → slice_get statements k ≡ Some s → P (operation_of schedule allotment (q + k) s)) → All P (operations_from schedule allotment q statements)
all-operations P schedule allotment q [] each = All-nil P
all-operations P schedule allotment q (s ∷ statements) each =
    let z : q + 0 ≡ q = omega arith in
    All-cons P (operation_of schedule allotment q s) (operations_from schedule allotment (q + 1) statements)
    (subst (λ n. P (operation_of schedule allotment n s)) z (each 0 s refl))
    (all-operations P schedule allotment (q + 1) statements (λ k t h.
    let y : q + suc k ≡ (q + 1) + k = omega arith in subst (λ n. P (operation_of schedule allotment n t)) y (each (suc k) t h)))

-- stages

stage-few : (schedule : ScheduleData) → IsSchedule schedule → stages_of schedule ≤ 64
stage-few schedule sc =
    let stages : List ℕ = map (λ time. time / schedule.ii) schedule.times in
    elim (greatest-reached stages) [
      | inl none ↦ omega arith
      | inr c ↦
          let b = contains-map_back (λ time. time / schedule.ii) schedule.times (greatest_of stages) c in
          let f = All-contains (λ time. time / schedule.ii < 64) schedule.times b.0 sc.stages b.1 in
          let e = b.2 in
          omega arith
    ]

stage-below : (schedule : ScheduleData) → IsSchedule schedule → (q : ℕ) (s : Statement) → slice_get schedule.problem.loop.statements q ≡ Some s → stage_of schedule q < stages_of schedule
stage-below schedule sc q s there =
    let within = slice_get-within schedule.problem.loop.statements q s there in
    let many = sc.problem.each_operation in
    let times = sc.lawful.plan.each_time in
    let g = greatest-of (map (λ t. t / schedule.ii) schedule.times) (slice_index schedule.times q / schedule.ii)
    (contains-map (λ t. t / schedule.ii) schedule.times (slice_index schedule.times q) (Contains-get_or schedule.times q 0 (omega arith))) in
    omega arith

-- shapes

some-map : {X Y : Type 0} (f : X → Y) (o : Option X) → is_some o ≡ true → is_some (option_map f o) ≡ true
some-map f None e = e
some-map f (Some x) e = refl

none-map : {X Y : Type 0} (f : X → Y) (o : Option X) → is_some o ≡ false → is_some (option_map f o) ≡ false
none-map f None e = refl
none-map f (Some x) e = e

shape-kept : (opcode : Opcode) (schedule : ScheduleData) (allotment : AllotmentData) (q : ℕ) (s : Statement) → HasShape opcode s → HasOperationShape opcode (operation_of schedule allotment q s)
shape-kept Load schedule allotment q s h = (
  some-map (λ _. name_of schedule allotment q 0 (stage_of schedule q)) s.name h.0,
  some-map (address_of (stage_of schedule q)) s.place h.1,
  length-map s.operands (source_of schedule allotment (stage_of schedule q)) ∙ ap length h.2,
)
shape-kept Store schedule allotment q s h =
    let l = length-map s.operands (source_of schedule allotment (stage_of schedule q)) in
    let a = h.2 in let b = h.3 in
    (none-map (λ _. name_of schedule allotment q 0 (stage_of schedule q)) s.name h.0, some-map (address_of (stage_of schedule q)) s.place h.1, omega arith, omega arith)
shape-kept opcode schedule allotment q s h = (
  some-map (λ _. name_of schedule allotment q 0 (stage_of schedule q)) s.name h.0,
  none-map (address_of (stage_of schedule q)) s.place h.1,
  length-map s.operands (source_of schedule allotment (stage_of schedule q)) ∙ h.2,
)

source-there : (schedule : ScheduleData) (allotment : AllotmentData) → 0 < allotment.registers → (stage : ℕ) (o : Operand) → SourceIsThere allotment.registers (source_of schedule allotment stage o)
source-there schedule allotment some stage (operand.Constant v) = tt
source-there schedule allotment some stage (operand.Parameter n) = tt
source-there schedule allotment some stage (operand.Value x d) = mod-lt (allotted_number schedule.problem.loop allotment x + d + stage) some

parameter-there : (schedule : ScheduleData) (allotment : AllotmentData) (stage q : ℕ) (o : Operand) → MayRead schedule.problem.loop q o → ParameterIsThere (length schedule.problem.loop.params) (source_of schedule allotment stage o)
parameter-there schedule allotment stage q (operand.Constant v) may = tt
parameter-there schedule allotment stage q (operand.Parameter n) may = may
parameter-there schedule allotment stage q (operand.Value x d) may = tt

destination-there : (schedule : ScheduleData) (allotment : AllotmentData) → 0 < allotment.registers → (q : ℕ) (o : Option (List ℕ)) (name : ℕ)
    → option_map (λ (n : List ℕ). name_of schedule allotment q 0 (stage_of schedule q)) o ≡ Some name → name < allotment.registers
destination-there schedule allotment some q None name e = cc
destination-there schedule allotment some q (Some n) name e =
    let m : name_of schedule allotment q 0 (stage_of schedule q) ≡ name = cc in
    let l : name_of schedule allotment q 0 (stage_of schedule q) < allotment.registers = mod-lt (allotted_number schedule.problem.loop allotment q + 0 + stage_of schedule q) some in
    omega arith

address-there : (schedule : ScheduleData) (allotment : AllotmentData) (q : ℕ) (s : Statement) (o : Option Place) → s.place ≡ o → IsStatement schedule.problem.loop q s
    → (address : Address) → option_map (address_of (stage_of schedule q)) o ≡ Some address
    → AddressIsThere (length (map (λ (a : Array). a.name) schedule.problem.loop.arrays)) (operation_of schedule allotment q s) address
address-there schedule allotment q s None p is address e = cc
address-there schedule allotment q s (Some place) p is address e =
    let at : address_of (stage_of schedule q) place ≡ address = cc in
    let ip = is.place place p in
    let a = ip.array in let low = ip.low in let high = ip.high in
    let l = length-map schedule.problem.loop.arrays (λ (a : Array). a.name) in
    subst (AddressIsThere (length (map (λ (a : Array). a.name) schedule.problem.loop.arrays)) (operation_of schedule allotment q s)) at
    (record { array = omega arith; low = omega (arith, ints); high = omega (arith, ints) })

-- preloads

later-values : (n : ℕ) (xs : List Statement) → AllPairs (λ x y. x ≢ y) (values_from n xs)
later-values n [] = pairs-nil (λ x y. x ≢ y)
later-values n (x ∷ xs) = elim (cases_Bool (is_some x.name)) [
  | inl named ↦ subst (AllPairs (λ x y. x ≢ y)) (sym (cond-true (is_some x.name) (n ∷ values_from (n + 1) xs) (values_from (n + 1) xs) named))
      (pairs-cons (λ x y. x ≢ y) n (values_from (n + 1) xs) (λ y c e. let b = value-back (n + 1) xs y c in let f = b.3 in omega arith) (later-values (n + 1) xs))
  | inr unnamed ↦ subst (AllPairs (λ x y. x ≢ y)) (sym (cond-false (is_some x.name) (n ∷ values_from (n + 1) xs) (values_from (n + 1) xs) unnamed)) (later-values (n + 1) xs)
]

abbrev Differ : Preload → Preload → Type 0
Differ p q = p.register ≢ q.register

numbers-differ : (schedule : ScheduleData) (allotment : AllotmentData) → Belong schedule allotment → (x : ℕ) (s : Statement) → slice_get schedule.problem.loop.statements x ≡ Some s → is_some s.name ≡ true
    → (from n : ℕ) → 1 ≤ from → from + n ≤ carried schedule.problem.loop x + 1 → AllPairs Differ (preloads_from schedule allotment x from n)
numbers-differ schedule allotment b x s there named from zero some few = pairs-nil Differ
numbers-differ schedule allotment b x s there named from (suc n) some few =
    pairs-cons Differ (record { register = name_of schedule allotment x from 0; value = initial_of schedule.problem.loop x from }) (preloads_from schedule allotment x (from + 1) n)
    (λ q c e.
    let r = number-back schedule allotment x (from + 1) n q c in
    let l = r.1 in
    let o = preloads-one schedule allotment b x from x ((from + 1) + r.0) s s there named there named some (omega arith) (omega arith) (omega arith) (e ∙ ap (λ (p : Preload). p.register) r.2) in
    let z = o.1 in omega arith)
    (numbers-differ schedule allotment b x s there named (from + 1) n (omega arith) (omega arith))

preloads-differ : (schedule : ScheduleData) (allotment : AllotmentData) → Belong schedule allotment → AllPairs Differ (preloads_of schedule allotment)
preloads-differ schedule allotment b =
    let loop = schedule.problem.loop in
    let f : ℕ → List Preload = λ value. preloads_from schedule allotment value 1 (carried loop value) in
    pairs-flat Differ f (values_of loop) (later-values 0 loop.statements)
    (λ x c.
    let v = value-back 0 loop.statements x c in
    let e : v.0 ≡ x = let z = v.3 in omega arith in
    numbers-differ schedule allotment b x v.1 (ap (slice_get loop.statements) (sym e) ∙ v.2) v.4 1 (carried loop x) (omega arith) (omega arith))
    (λ x y p q cx cy n cp cq e.
    let v = value-back 0 loop.statements x cx in
    let w = value-back 0 loop.statements y cy in
    let ve : v.0 ≡ x = let z = v.3 in omega arith in
    let we : w.0 ≡ y = let z = w.3 in omega arith in
    let a = number-back schedule allotment x 1 (carried loop x) p cp in
    let c = number-back schedule allotment y 1 (carried loop y) q cq in
    let al = a.1 in let cl = c.1 in
    n (preloads-one schedule allotment b x (1 + a.0) y (1 + c.0) v.1 w.1 (ap (slice_get loop.statements) (sym ve) ∙ v.2) v.4 (ap (slice_get loop.statements) (sym we) ∙ w.2) w.4
    (omega arith) (omega arith) (omega arith) (omega arith) (sym (ap (λ (p : Preload). p.register) a.2) ∙ e ∙ ap (λ (p : Preload). p.register) c.2)).0)

preload-below : (schedule : ScheduleData) (allotment : AllotmentData) → 0 < allotment.registers → (p : Preload) → Contains (preloads_of schedule allotment) p → p.register < allotment.registers
preload-below schedule allotment some p c =
    let is = preload-back schedule allotment p c in
    let e : p.register ≡ name_of schedule allotment is.value is.number 0 = ap (λ (q : Preload). q.register) is.is in
    let l : name_of schedule allotment is.value is.number 0 < allotment.registers = mod-lt (allotted_number schedule.problem.loop allotment is.value + is.number + 0) some in
    omega arith

map-pairs : (ps : List Preload) → AllPairs Differ ps → AllPairs (λ x y. x ≢ y) (map (λ (p : Preload). p.register) ps)
map-pairs [] all = pairs-nil (λ x y. x ≢ y)
map-pairs (p ∷ ps) all =
    pairs-cons (λ x y. x ≢ y) p.register (map (λ (p : Preload). p.register) ps)
    (λ y c. let m = contains-map_back (λ (p : Preload). p.register) ps y c in λ e. pairs-head Differ p ps all m.0 m.1 (e ∙ sym m.2))
    (map-pairs ps (pairs-tail Differ p ps all))

pub kernels-are_well_formed : KernelsAreWellFormed
unfolding emitted
kernels-are_well_formed schedule allotment b =
    let loop = schedule.problem.loop in
    let sc = b.scheduled in
    let is = sc.problem.loop in
    let some : 0 < allotment.registers = b.allotted.some in
    let few : allotment.registers ≤ 256 = b.allotted.few in
    let statement : (k : ℕ) (s : Statement) → slice_get loop.statements k ≡ Some s → IsStatement loop k s = is.each in
    let z : (k : ℕ) → 0 + k ≡ k = λ k. omega arith in
    let differ = preloads-differ schedule allotment b in
    let registers : List ℕ = map (λ (p : Preload). p.register) (preloads_of schedule allotment) in
    let preload_count : length registers ≤ allotment.registers = different-few allotment.registers registers (map-pairs (preloads_of schedule allotment) differ) (λ r c.
    let m = contains-map_back (λ (p : Preload). p.register) (preloads_of schedule allotment) r c in
    let l = preload-below schedule allotment some m.0 m.1 in
    let e = m.2 in omega arith) in
    let out_count : length loop.outs ≤ length loop.statements = different-few (length loop.statements) loop.outs is.outs_different (λ x c.
    let g = (All-contains (λ o. GivesValue loop o × HasInitial loop o 1) loop.outs x is.outs c).0 in slice_get-within loop.statements x g.0 g.1) in
    record {
      size = record {
        ii_some = sc.ii_some;
        ii_few = sc.ii_few;
        stages_some = omega arith;
        stages_few = stage-few schedule sc;
        registers_some = b.allotted.some;
        registers_few = b.allotted.few;
        operations_some = (let l = length-operations schedule allotment 0 loop.statements in let n = is.statements_some in omega arith);
        operations_few = (let l = length-operations schedule allotment 0 loop.statements in let n = is.statements_few in omega arith);
        arrays_few = (let l = length-map loop.arrays (λ (a : Array). a.name) in let n = is.arrays in omega arith);
        params_few = is.params;
        preloads_few = (let l = length-map (preloads_of schedule allotment) (λ (p : Preload). p.register) in omega arith);
        outs_few = (let l = length-map loop.outs (out_of schedule allotment) in let n = is.statements_few in omega arith);
      };
      row = all-operations (λ (op : Operation). op.row < schedule.ii) schedule allotment 0 loop.statements (λ k s h. mod-lt (slice_index schedule.times (0 + k)) sc.ii_some);
      stage = all-operations (λ (op : Operation). op.stage < stages_of schedule) schedule allotment 0 loop.statements (λ k s h.
          let e = z k in subst (λ n. stage_of schedule n < stages_of schedule) (sym e) (stage-below schedule sc k s h));
      latency = all-operations (λ (op : Operation). (1 ≤ op.latency) × (op.latency ≤ 64)) schedule allotment 0 loop.statements (λ k s h.
          let within = slice_get-within loop.statements k s h in
          let long = sc.problem.is_problem.each_latency in
          let many = sc.problem.each_operation in
          let l = All-get_or (λ l. (0 < l) × (l ≤ 64)) schedule.problem.graph.latencies k 0 (omega arith) sc.problem.is_problem.graph.latencies in
          subst (λ n. (1 ≤ slice_index schedule.problem.graph.latencies n) × (slice_index schedule.problem.graph.latencies n ≤ 64)) (sym (z k)) (l.0, l.1));
      register = all-operations (RegistersAreThere allotment.registers) schedule allotment 0 loop.statements (λ k s h. record {
        destination = λ name e. destination-there schedule allotment some (0 + k) s.name name e;
        sources = All-map (SourceIsThere allotment.registers) (source_of schedule allotment (stage_of schedule (0 + k))) s.operands (λ i d l. source-there schedule allotment some (stage_of schedule (0 + k)) (get_or s.operands i d));
      });
      shape = all-operations (IsShaped (length loop.params)) schedule allotment 0 loop.statements (λ k s h. record {
        shape = shape-kept s.opcode schedule allotment (0 + k) s (statement k s h).shape;
        parameters = All-map (ParameterIsThere (length loop.params)) (source_of schedule allotment (stage_of schedule (0 + k))) s.operands
            (λ i d l. parameter-there schedule allotment (stage_of schedule (0 + k)) k (get_or s.operands i d) ((statement k s h).operands i d l));
      });
      place = all-operations (IsPlaced (length (map (λ (a : Array). a.name) loop.arrays))) schedule allotment 0 loop.statements (λ k s h address e.
          address-there schedule allotment (0 + k) s s.place refl (subst (λ n. IsStatement loop n s) (sym (z k)) (statement k s h)) address e);
      preload = record {
        there = λ k d l. preload-below schedule allotment some (get_or (preloads_of schedule allotment) k d) (Contains-get_or (preloads_of schedule allotment) k d l);
        different = differ;
      };
      out = All-map (λ (o : Out). o.register < allotment.registers) (out_of schedule allotment) loop.outs (λ k d l.
          mod-lt (allotted_number loop allotment (get_or loop.outs k d) + 0 + (stages_of schedule - 1)) some);
    }
