-- The drafts of a text's problems have no fault.
use Rattle.std.proofs.Common.{◌≡◌, ◌≢◌, ℕ, zero, suc, ◌<◌, ◌≤◌, List, [], ◌∷◌, get_or, length, map, inr, sym, ap, ◌∙◌, arith, subst, None}
use Rattle.std.specs.Prelude.{IfOk, Result, Ok, Err}
use Rattle.std.specs.List.{All, AllPairs}
use Rattle.std.proofs.lemmas.Bool.{both_ways}
use Rattle.std.proofs.lemmas.List.{get_or-map, length-map}
use Rattle.std.proofs.lemmas.List.Elements.{All-weaker}
use Rattle.std.proofs.lemmas.List.Folds.{list_any_at}
use Rattle.smallvec.specs.SmallVec.{SmallVec}
use Rattle.machine_data.specs.Opcodes.{same_word}
use Rattle.problems.specs.Drafts.{AreNames, AreRows, IsKind, IsOrder, IsRead, IsValue, IsWellFormed, IsFile}
use Rattle.problems.specs.Faults.{first_fault_of}
use Rattle.problems.specs.declared.draft.Draft.{Draft}
use Rattle.problems.specs.declared.draft.Hold.{Hold}
use Rattle.problems.specs.declared.draft.Kind.{Kind}
use Rattle.problems.proofs.faults.Sound.{sound-well_formed}
use Rattle.problem_tables.specs.Data.{FileData, KindData, MachineData, ProblemData, kind_seen}
use Rattle.problem_tables.specs.Names.{has_name}
use Rattle.problem_tables.specs.Seen.{ended_seen, machine_seen, problem_seen}
use Rattle.problem_tables.specs.declared.ended.Ended.{Ended}
use Rattle.problem_tables.specs.declared.ended.TextMachine.{TextMachine}
use Rattle.problem_tables.specs.declared.ended.TextProblem.{TextProblem}
use Rattle.problem_tables.proofs.Naming.{same_word-here}
use Rattle.problem_reader.specs.Files.{IsDraftOf, IsFaultlessIn, IsFile as IsTextFile, machine_at, nothing, nowhere, problem_at}
use Rattle.problem_reader.specs.inner.OnMachines.{IsOnMachine}
use Rattle.problem_reader.proofs.Making.{AreOnce}
use Rattle.problem_reader.proofs.Parts.{IsReadOf, IsSoundKind}
use Rattle.problem_reader.proofs.Steps.{IsSoundOn, machine_parts}

-- names

once-different : (names : List (List ℕ)) → AreOnce names → AllPairs (λ a b. a ≢ b) names
once-different [] once i j d lt below is = absurd (omega (arith, below))
once-different (x ∷ xs) once zero zero d lt below is = absurd (omega (arith, lt))
once-different (x ∷ xs) once zero (suc j) d lt below is =
    both_ways (has_name xs x) once.0 (list_any_at (same_word x) xs j d (omega (arith, below)) (ap (same_word x) (sym is) ∙ same_word-here x))
once-different (x ∷ xs) once (suc i) zero d lt below is = absurd (omega (arith, lt))
once-different (x ∷ xs) once (suc i) (suc j) d lt below is = once-different xs once.1 i j d (omega (arith, lt)) (omega (arith, below)) is

are-names : (count : ℕ) (names given : List (List ℕ)) → names ≡ given → AreOnce given → length given ≡ count → AreNames count names
are-names count names given is once named = record { each = inr (ap length is ∙ named); different = subst (AllPairs (λ a b. a ≢ b)) (sym is) (once-different given once) }

-- kinds

all-unmap : {X Y : Type 0} (P : Y → Type 0) (f : X → Y) (xs : List X) → All P (map f xs) → All (λ x. P (f x)) xs
all-unmap P f xs h k d low = let size = length-map xs f in subst P (get_or-map f xs k d (f d) low) (h k (f d) (omega (arith, size, low)))

is-kind : (units : ℕ) (kind : Kind) → IsSoundKind units (kind_seen kind) → IsKind units kind
is-kind units kind h =
    let size = length-map kind.alternatives.items (λ (rows : SmallVec Hold). rows.items) in
    let some = h.some in
    let few = h.few in
    record {
      latency_some = h.latency_some;
      latency_few = h.latency_few;
      alternatives_some = omega (arith, size, some);
      alternatives_few = omega (arith, size, few);
      alternatives = all-unmap (AreRows units) (λ (rows : SmallVec Hold). rows.items) kind.alternatives.items h.rows;
    }

-- a kind holds a unit
some-unit : (units : ℕ) (kinds : List KindData) → 1 ≤ length kinds → All (IsSoundKind units) kinds → 1 ≤ units
some-unit units kinds some all =
    let kind = all 0 (record { latency = 0; alternatives = [] }) some in
    let rows = kind.rows 0 [] kind.some in
    let unit = rows.units 0 (record { unit = 0; offset = 0 }) rows.some in
    omega (arith, unit)

-- an operation is of a kind
some-kind : (kinds : ℕ) (operations : List ℕ) → 1 ≤ length operations → All (λ kind. kind < kinds) operations → 1 ≤ kinds
some-kind kinds operations some all = let low = all 0 0 some in omega (arith, low)

-- drafts

draft-well_formed : (m : MachineData) (p : ProblemData) (draft : Draft) → IsSoundOn (machine_parts m) p → IsDraftOf m p draft → IsWellFormed draft
draft-well_formed m p draft h is =
    let machine = h.machine in
    let problem = h.problem in
    let units = is.units in
    let files : length draft.files.items ≡ length m.files = ap length is.files in
    let kinds : length draft.kinds.items ≡ length m.kinds = sym (length-map draft.kinds.items kind_seen) ∙ ap length is.kinds in
    let operations : length draft.operations.items ≡ length p.operations = ap length is.operations in
    let values : length draft.values.items ≡ length p.values = ap length is.values in
    let reads : length draft.reads.items ≡ length p.reads = ap length is.reads in
    let orders : length draft.orders.items ≡ length p.orders = ap length is.orders in
    let some = h.some in
    let some_kinds = some-kind (length m.kinds) p.operations some problem.operations in
    let some_units = some-unit (length m.units) m.kinds some_kinds machine.kinds in
    let units_few = machine.units_few in
    let files_few = machine.files_few in
    let kinds_few = machine.kinds_few in
    let operations_few = problem.operations_few in
    let values_few = problem.values_few in
    let reads_few = problem.reads_few in
    let orders_few = problem.orders_few in
    record {
      counts = record {
        units_some = omega (arith, units, some_units);
        units_few = omega (arith, units, units_few);
        files_few = omega (arith, files, files_few);
        kinds_some = omega (arith, kinds, some_kinds);
        kinds_few = omega (arith, kinds, kinds_few);
        operations_some = omega (arith, operations, some);
        operations_few = omega (arith, operations, operations_few);
        values_few = omega (arith, values, values_few);
        reads_few = omega (arith, reads, reads_few);
        orders_few = omega (arith, orders, orders_few);
      };
      names = record {
        units = are-names draft.units draft.names.units.items m.units is.unit_names machine.units_once (sym units);
        files = are-names (length draft.files.items) draft.names.files.items m.file_names is.file_names machine.files_once (machine.files_named ∙ sym files);
        kinds = are-names (length draft.kinds.items) draft.names.kinds.items m.kind_names is.kind_names machine.kinds_once (machine.kinds_named ∙ sym kinds);
        operations = are-names (length draft.operations.items) draft.names.operations.items p.operation_names is.operation_names problem.operations_once (problem.operations_named ∙ sym operations);
        values = are-names (length draft.values.items) draft.names.values.items p.value_names is.value_names problem.values_once (problem.values_named ∙ sym values);
      };
      files = subst (All IsFile) (sym is.files) machine.files;
      kinds = subst (λ n. All (IsKind n) draft.kinds.items) (sym units)
          (All-weaker (λ (kind : Kind). IsSoundKind (length m.units) (kind_seen kind)) (IsKind (length m.units)) (is-kind (length m.units)) draft.kinds.items
          (all-unmap (IsSoundKind (length m.units)) kind_seen draft.kinds.items (subst (All (IsSoundKind (length m.units))) (sym is.kinds) machine.kinds)));
      operations = All-weaker (λ kind. kind < length m.kinds) (λ kind. kind < length draft.kinds.items) (λ kind low. omega (arith, kinds, low)) draft.operations.items
          (subst (All (λ kind. kind < length m.kinds)) (sym is.operations) problem.operations);
      values = All-weaker (IsValue (length p.operations) (length m.files)) (IsValue (length draft.operations.items) (length draft.files.items))
          (λ value v. let maker = v.maker in let file = v.file in record { maker = omega (arith, operations, maker); lands = v.lands; file = omega (arith, files, file) }) draft.values.items
          (subst (All (IsValue (length p.operations) (length m.files))) (sym is.values) problem.values);
      reads = All-weaker (IsReadOf draft.values.items (length p.operations)) (IsRead draft)
          (λ reading r. let reader = r.reader in record { value = r.value; reader = omega (arith, operations, reader); distance = r.distance; offset = r.offset; forward = r.forward }) draft.reads.items
          (subst (All (IsReadOf draft.values.items (length p.operations))) (sym is.reads) (subst (λ vs. All (IsReadOf vs (length p.operations)) p.reads) (sym is.values) problem.reads));
      orders = All-weaker (IsOrder (length p.operations)) (IsOrder (length draft.operations.items))
          (λ order o. let from = o.from in let to = o.to in record {
            from = omega (arith, operations, from);
            to = omega (arith, operations, to);
            delay_low = o.delay_low;
            delay_high = o.delay_high;
            distance = o.distance;
            forward = o.forward;
          }) draft.orders.items
          (subst (All (IsOrder (length p.operations))) (sym is.orders) problem.orders);
    }

pub draft-faultless : (m : MachineData) (p : ProblemData) (draft : Draft) → IsSoundOn (machine_parts m) p → IsDraftOf m p draft → first_fault_of draft ≡ None
draft-faultless m p draft h is = (sound-well_formed draft).1 (draft-well_formed m p draft h is)

-- what is read of a text

pub problem-at : (ended : Ended) (number : ℕ) (x : TextProblem) → IsTextFile (ended_seen ended) → number < length ended.problems.items → x ≡ get_or ended.problems.items number x
    → IsFaultlessIn (ended_seen ended) (problem_seen x)
problem-at ended number x file low is =
    let size = length-map ended.problems.items problem_seen in
    subst (IsFaultlessIn (ended_seen ended)) (get_or-map problem_seen ended.problems.items number x (problem_seen x) low ∙ ap problem_seen (sym is)) (file number (problem_seen x) (omega (arith, low, size)))

pub draft-at : {E : Type 0} (ended : Ended) (x : TextProblem) (y : TextMachine) (r : Result Draft E) → IsFaultlessIn (ended_seen ended) (problem_seen x) → y ≡ get_or ended.machines.items x.machine y
    → IfOk r (IsDraftOf (machine_seen y) (problem_seen x)) → IfOk r (λ draft. first_fault_of draft ≡ None)
draft-at ended x y (Ok draft) sound is h =
    let size = length-map ended.machines.items machine_seen in
    let placed = sound.placed in
    let here = get_or-map machine_seen ended.machines.items x.machine y nowhere (omega (arith, placed, size)) ∙ ap machine_seen (sym is) in
    sound.faultless draft (subst (λ m. IsDraftOf m (problem_seen x) draft) (sym here) h)
draft-at ended x y (Err error) sound is h = tt

-- drafts made of others on the same machine

same-problem : (ended : Ended) (number : ℕ) (x : TextProblem) → number < length ended.problems.items → x ≡ get_or ended.problems.items number x → problem_seen x ≡ problem_at (ended_seen ended) number
same-problem ended number x low is = sym (get_or-map problem_seen ended.problems.items number x nothing low ∙ ap problem_seen (sym is))

redraft-of : {E : Type 0} (r : Result Draft E) (file : FileData) (number : ℕ) (p : ProblemData) (draft : Draft) → p ≡ problem_at file number
    → IsOnMachine (machine_at file (problem_at file number).machine) draft → IfOk r (λ made. (m : MachineData) → IsOnMachine m draft → IsDraftOf m p made)
    → IfOk r (IsDraftOf (machine_at file (problem_at file number).machine) (problem_at file number))
redraft-of (Ok made) file number p draft same on h = subst (λ q. IsDraftOf (machine_at file (problem_at file number).machine) q made) same (h (machine_at file (problem_at file number).machine) on)
redraft-of (Err error) file number p draft same on h = tt

pub redraft-at : {E : Type 0} (r : Result Draft E) (ended : Ended) (file : FileData) (number : ℕ) (x : TextProblem) (draft : Draft) → ended_seen ended ≡ file → number < length ended.problems.items
    → x ≡ get_or ended.problems.items number x → IsOnMachine (machine_at file (problem_at file number).machine) draft
    → IfOk r (λ made. (m : MachineData) → IsOnMachine m draft → IsDraftOf m (problem_seen x) made)
    → IfOk r (IsDraftOf (machine_at file (problem_at file number).machine) (problem_at file number))
redraft-at r ended file number x draft view low is on h =
    redraft-of r file number (problem_seen x) draft (same-problem ended number x low is ∙ ap (λ f. problem_at f number) view) on h

pub redraft-faultless : {E : Type 0} (r : Result Draft E) (file : FileData) (p : ProblemData) → IsFaultlessIn file p → IfOk r (IsDraftOf (machine_at file p.machine) p) → IfOk r (λ draft. first_fault_of draft ≡ None)
redraft-faultless (Ok draft) file p sound h = sound.faultless draft h
redraft-faultless (Err error) file p sound h = tt

-- each problem of a file is so
pub faultless-at : (file : FileData) (number : ℕ) → IsTextFile file → number < length file.problems → IsFaultlessIn file (problem_at file number)
faultless-at file number all low = all number nothing low
