-- What a line without a fault leaves known of the tables.
use Rattle.std.proofs.Common.{◌≡◌, ℕ, zero, suc, ◌+◌, ◌-◌, ◌<◌, ◌≤◌, Bool, true, false, not, List, [], ◌∷◌, ◌++◌, length, map, refl, sym, ◌∙◌, arith, if◌then◌else◌, Option, None}
use Rattle.std.specs.Prelude.{◌&&◌, nat_lt}
use Rattle.std.specs.List.{All, list_any}
use Rattle.std.proofs.lemmas.Bool.{false≢true}
use Rattle.std.proofs.lemmas.Bool.Decides.{Decides-ltb}
use Rattle.std.proofs.lemmas.List.{length-append, length_push}
use Rattle.std.proofs.lemmas.List.Elements.{All-cons, All-nil, All-push, All-weaker}
use Rattle.problem_lines.specs.Forms.{Form, MachineLine, UnitsLine, FileLine, KindLine, ProblemLine, OpLine, ValueLine, ReadLine, EdgeLine, EndLine, HoldForm}
use Rattle.problems.specs.declared.draft.Order.{Order}
use Rattle.problems.specs.declared.draft.Value.{Value}
use Rattle.registers.specs.declared.value.Read.{Read}
use Rattle.problem_tables.specs.Data.{KindData, ProblemData, hold_in, kind_of}
use Rattle.problem_tables.specs.Faults.{alternatives_fault, alternative_room, first_of, holds_fault, known, offset_fault, on_word, room_at, same_hold, unless}
use Rattle.problem_tables.specs.Names.{bytes_of, index_of, last_name}
use Rattle.problem_tables.specs.Tables.{MachineParts, ProblemParts, TablesData, form_fault, has_machine, kind_faults, may_stand, named_machine, no_machine, no_problem, no_tables, order_faults, order_of, read_faults, read_of, value_faults, value_of, with_form, with_machine}
use Rattle.problem_faults.specs.declared.refused_problems.Part.TheVariants as part
use Rattle.problem_tables.specs.declared.fault.Told.{Told}
use Rattle.problem_faults.specs.declared.refused_problems.Wrong.{Wrong}
use Rattle.problem_faults.specs.declared.refused_problems.Wrong.TheVariants as wrong
use Rattle.problem_reader.proofs.Faults.{known-low, new-absent, none-at, not-true}
use Rattle.problem_reader.proofs.Machines.{IsHeld, IsKindOf}
use Rattle.problem_reader.proofs.Making.{AreOnce, once-push}
use Rattle.problem_reader.proofs.Problems.{AreKnown, IsMade, IsOrdered, IsReading}
use Rattle.problem_reader.proofs.Walking.{IsWalked}

and-left : (a b : Bool) → (a && b) ≡ true → a ≡ true
and-left true b h = refl
and-left false b h = h

-- the holds of a kind

abbrev pub hold_list : List (List ℕ) → List HoldForm → HoldForm → List HoldForm → List (Option Told)
hold_list units sofar hold holds =
    room_at (on_word hold.unit) (length sofar) 16 part.Holds
    ∷ known units part.Units hold.unit
    ∷ offset_fault 63 hold.offset
    ∷ unless (not (list_any (same_hold hold) sofar)) (on_word hold.unit wrong.Repeated)
    ∷ holds_fault units (sofar ++ hold ∷ []) holds
    ∷ []

holds-held : (units : List (List ℕ)) (sofar holds : List HoldForm) → holds_fault units sofar holds ≡ None → All (IsHeld (length units)) (map (hold_in units) holds)
holds-held units sofar [] h = All-nil (IsHeld (length units))
holds-held units sofar (hold ∷ holds) h =
    All-cons (IsHeld (length units)) (hold_in units hold) (map (hold_in units) holds) (known-low units part.Units hold.unit (none-at (hold_list units sofar hold holds) 1 h))
    (holds-held units (sofar ++ hold ∷ []) holds (none-at (hold_list units sofar hold holds) 4 h))

alternatives-held : (units : List (List ℕ)) (count : ℕ) (alternatives : List (List HoldForm)) → alternatives_fault units count alternatives ≡ None
    → All (All (IsHeld (length units))) (map (map (hold_in units)) alternatives)
alternatives-held units count [] h = All-nil (All (IsHeld (length units)))
alternatives-held units count (holds ∷ more) h =
    let faults : List (Option Told) = alternative_room count holds ∷ holds_fault units [] holds ∷ alternatives_fault units (count + 1) more ∷ [] in
    All-cons (All (IsHeld (length units))) (map (hold_in units) holds) (map (map (hold_in units)) more) (holds-held units [] holds (none-at faults 1 h))
    (alternatives-held units (count + 1) more (none-at faults 2 h))

-- more names

kinds-weaker : (few many : ℕ) (kinds : List KindData) → few ≤ many → All (IsKindOf few) kinds → All (IsKindOf many) kinds
kinds-weaker few many kinds le all =
    All-weaker (IsKindOf few) (IsKindOf many)
    (λ kind h. All-weaker (All (IsHeld few)) (All (IsHeld many)) (λ rows held. All-weaker (IsHeld few) (IsHeld many) (λ hold low. omega (arith, le, low)) rows held) kind.alternatives h) kinds all

values-weaker : (few many : ℕ) (values : List Value) → few ≤ many → All (IsMade few) values → All (IsMade many) values
values-weaker few many values le all = All-weaker (IsMade few) (IsMade many) (λ value low. omega (arith, le, low)) values all

reads-weaker : (few many less more : ℕ) (reads : List Read) → few ≤ many → less ≤ more → All (IsReading few less) reads → All (IsReading many more) reads
reads-weaker few many less more reads le lt all =
    All-weaker (IsReading few less) (IsReading many more) (λ reading h. let v = h.value in let r = h.reader in record { value = omega (arith, lt, v); reader = omega (arith, le, r) }) reads all

orders-weaker : (few many : ℕ) (orders : List Order) → few ≤ many → All (IsOrdered few) orders → All (IsOrdered many) orders
orders-weaker few many orders le all =
    All-weaker (IsOrdered few) (IsOrdered many) (λ order h. let f = h.from in let t = h.to in record { from = omega (arith, le, f); to = omega (arith, le, t) }) orders all

-- the tables

pub record IsSound (t : TablesData) : Type 0 where
  pub walked : IsWalked t
  pub once : AreOnce t.problem.value_names
  -- a problem is on a machine
  pub placed : t.inside ≡ true → 0 < length t.machines
  pub numbers : All (λ (p : ProblemData). p.machine < length t.machines) t.ended.problems
  pub count : length t.ended.machines ≡ length t.machines - 1

pub sound-none : IsSound no_tables
sound-none = record {
  walked = record { kinds = All-nil (IsKindOf 0); known = record { values = All-nil (IsMade 0); reads = All-nil (IsReading 0 0); orders = All-nil (IsOrdered 0) }; bare = λ e. refl; begun = λ e. absurd (false≢true e) };
  once = tt;
  placed = λ e. absurd (false≢true e);
  numbers = All-nil (λ (p : ProblemData). p.machine < 0);
  count = refl;
}

nothing-known : AreKnown no_problem
nothing-known = record { values = All-nil (IsMade 0); reads = All-nil (IsReading 0 0); orders = All-nil (IsOrdered 0) }

pub some-machine : (n : ℕ) → nat_lt 0 n ≡ true → 0 < n
some-machine n e = (Decides-ltb 0 n).0 e

pub no-machines : (n : ℕ) → nat_lt 0 n ≡ false → n ≡ 0
no-machines zero e = refl
no-machines (suc n) e = absurd (false≢true (sym e ∙ (Decides-ltb 0 (suc n)).1 (omega arith)))

-- a machine more
sound-machine : (t : TablesData) (name : List ℕ) (b : Bool) → nat_lt 0 (length t.machines) ≡ b → IsSound t → t.inside ≡ false
    → IsSound (with_machine (if b then record t { machine = no_machine; ended = record t.ended { machines = t.ended.machines ++ named_machine (last_name t.machines) t.machine ∷ [] } } else t) name)
sound-machine t name true e s out =
    let some = some-machine (length t.machines) e in
    let size : length (t.machines ++ name ∷ []) ≡ length t.machines + 1 = length_push t.machines name in
    let ended = length_push t.ended.machines (named_machine (last_name t.machines) t.machine) in
    let count = s.count in
    record {
      walked = record { kinds = All-nil (IsKindOf 0); known = s.walked.known; bare = λ _. refl; begun = λ i. absurd (false≢true (sym out ∙ i)) };
      once = s.once;
      placed = λ _. omega (arith, size);
      numbers = All-weaker (λ (p : ProblemData). p.machine < length t.machines) (λ (p : ProblemData). p.machine < length (t.machines ++ name ∷ [])) (λ p low. omega (arith, size, low)) t.ended.problems s.numbers;
      count = omega (arith, size, ended, count, some);
    }
sound-machine t name false e s out =
    let none = no-machines (length t.machines) e in
    let size : length (t.machines ++ name ∷ []) ≡ length t.machines + 1 = length_push t.machines name in
    let count = s.count in
    record {
      walked = record { kinds = s.walked.kinds; known = s.walked.known; bare = λ _. s.walked.bare e; begun = λ i. absurd (false≢true (sym out ∙ i)) };
      once = s.once;
      placed = λ _. omega (arith, size);
      numbers = All-weaker (λ (p : ProblemData). p.machine < length t.machines) (λ (p : ProblemData). p.machine < length (t.machines ++ name ∷ [])) (λ p low. omega (arith, size, low)) t.ended.problems s.numbers;
      count = omega (arith, size, count, none);
    }

-- the machine under way says more
with-parts : (t : TablesData) (m : MachineParts) → IsSound t → has_machine t ≡ true → All (IsKindOf (length m.units)) m.kinds → IsSound (record t { machine = m })
with-parts t m s has kinds = record {
  walked = record { kinds = kinds; known = s.walked.known; bare = λ e. absurd (false≢true (sym e ∙ has)); begun = s.walked.begun };
  once = s.once;
  placed = s.placed;
  numbers = s.numbers;
  count = s.count;
}

-- the problem under way says more
with-problem : (t : TablesData) (p : ProblemParts) → IsSound t → AreKnown p → AreOnce p.value_names → IsSound (record t { problem = p })
with-problem t p s known once = record {
  walked = record { kinds = s.walked.kinds; known = known; bare = s.walked.bare; begun = s.walked.begun };
  once = once;
  placed = s.placed;
  numbers = s.numbers;
  count = s.count;
}

known-op : (p : ProblemParts) (number : ℕ) (name : List ℕ) → AreKnown p → AreKnown (record p { operations = p.operations ++ number ∷ []; operation_names = p.operation_names ++ name ∷ [] })
known-op p number name k =
    let more : length p.operation_names ≤ length (p.operation_names ++ name ∷ []) = let l = length_push p.operation_names name in omega (arith, l) in
    record {
      values = values-weaker (length p.operation_names) (length (p.operation_names ++ name ∷ [])) p.values more k.values;
      reads = reads-weaker (length p.operation_names) (length (p.operation_names ++ name ∷ [])) (length p.value_names) (length p.value_names) p.reads more (omega arith) k.reads;
      orders = orders-weaker (length p.operation_names) (length (p.operation_names ++ name ∷ [])) p.orders more k.orders;
    }

known-value : (p : ProblemParts) (value : Value) (name : List ℕ) → AreKnown p → value.maker < length p.operation_names → AreKnown (record p { values = p.values ++ value ∷ []; value_names = p.value_names ++ name ∷ [] })
known-value p value name k low =
    let more : length p.value_names ≤ length (p.value_names ++ name ∷ []) = let l = length_push p.value_names name in omega (arith, l) in
    record {
      values = All-push (IsMade (length p.operation_names)) p.values value k.values low;
      reads = reads-weaker (length p.operation_names) (length p.operation_names) (length p.value_names) (length (p.value_names ++ name ∷ [])) p.reads (omega arith) more k.reads;
      orders = k.orders;
    }

pub sound-more : (t : TablesData) (told : Wrong → Told) (form : Form) → IsSound t → may_stand t form ≡ true → form_fault t told form ≡ None → IsSound (with_form t form)
sound-more t told (MachineLine name) s stands none = sound-machine t name.bytes (nat_lt 0 (length t.machines)) refl s (not-true t.inside stands)
sound-more t told (UnitsLine names) s stands none =
    let more : length t.machine.units ≤ length (t.machine.units ++ bytes_of names) = let l = length-append t.machine.units (bytes_of names) in omega (arith, l) in
    with-parts t (record t.machine { units = t.machine.units ++ bytes_of names }) s (and-left (has_machine t) (not t.served) stands)
    (kinds-weaker (length t.machine.units) (length (t.machine.units ++ bytes_of names)) t.machine.kinds more s.walked.kinds)
sound-more t told (FileLine name storage) s stands none = with-parts t _ s (and-left (has_machine t) (not t.served) stands) s.walked.kinds
sound-more t told (KindLine name latency alternatives) s stands none =
    with-parts t _ s (and-left (has_machine t) (not t.served) stands)
    (All-push (IsKindOf (length t.machine.units)) t.machine.kinds (kind_of t.machine.units latency alternatives) s.walked.kinds
    (alternatives-held t.machine.units 0 alternatives (none-at (first_of (kind_faults t.machine told name latency) ∷ alternatives_fault t.machine.units 0 alternatives ∷ []) 1 none)))
sound-more t told (ProblemLine name) s stands none = record {
  walked = record { kinds = s.walked.kinds; known = s.walked.known; bare = s.walked.bare; begun = λ _. refl };
  once = s.once;
  placed = λ _. some-machine (length t.machines) (and-left (has_machine t) (not t.inside) stands);
  numbers = s.numbers;
  count = s.count;
}
sound-more t told (OpLine name kind) s stands none = with-problem t _ s (known-op t.problem (index_of t.machine.kind_names kind.bytes) name.bytes s.walked.known) s.once
sound-more t told (ValueLine name maker lands file out) s stands none =
    let faults = value_faults t.machine t.problem told name maker lands file in
    with-problem t _ s
    (known-value t.problem (value_of t.machine t.problem maker lands file out) name.bytes s.walked.known (known-low t.problem.operation_names part.Operations maker (none-at faults 2 none)))
    (once-push t.problem.value_names name.bytes s.once (new-absent t.problem.value_names name (none-at faults 1 none)))
sound-more t told (ReadLine reader value distance offset) s stands none =
    let faults = read_faults t.problem told reader value distance offset in
    let known = s.walked.known in
    with-problem t _ s
    (record {
      values = known.values;
      reads = All-push (IsReading (length t.problem.operation_names) (length t.problem.value_names)) t.problem.reads (read_of t.problem reader value distance offset) known.reads
          (record { value = known-low t.problem.value_names part.Values value (none-at faults 2 none); reader = known-low t.problem.operation_names part.Operations reader (none-at faults 1 none) });
      orders = known.orders;
    }) s.once
sound-more t told (EdgeLine from to delay distance) s stands none =
    let faults = order_faults t.problem told from to delay distance in
    let known = s.walked.known in
    with-problem t _ s
    (record {
      values = known.values;
      reads = known.reads;
      orders = All-push (IsOrdered (length t.problem.operation_names)) t.problem.orders (order_of t.problem from to delay distance) known.orders
          (record { from = known-low t.problem.operation_names part.Operations from (none-at faults 1 none); to = known-low t.problem.operation_names part.Operations to (none-at faults 2 none) });
    }) s.once
sound-more t told EndLine s stands none =
    let some = s.placed stands in
    record {
      walked = record { kinds = s.walked.kinds; known = nothing-known; bare = s.walked.bare; begun = λ i. absurd (false≢true i) };
      once = tt;
      placed = λ i. absurd (false≢true i);
      numbers = All-push (λ (p : ProblemData). p.machine < length t.machines) t.ended.problems _ s.numbers (omega (arith, some));
      count = s.count;
    }
