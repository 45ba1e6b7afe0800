-- Machines and problems none of whose lines has a fault.
use Rattle.std.proofs.Common.{◌≡◌, ◌≢◌, ℕ, ◌+◌, ◌<◌, ◌≤◌, Bool, true, false, not, List, [], ◌∷◌, ◌++◌, append_assoc, get_or, length, map, refl, sym, ap, ◌∙◌, arith, subst, Option, None}
use Rattle.std.specs.Prelude.{◌==◌, if◌then◌else◌, nat_lt}
use Rattle.std.specs.List.{All, AllPairs, list_any}
use Rattle.std.proofs.lemmas.Bool.{and_from, both_ways, eq-eqb, lt-ltb, ltb-true}
use Rattle.std.proofs.lemmas.List.{append-nil, get_or_append_left, get_or-map, length-append, length-map, length_push, map_push}
use Rattle.std.proofs.lemmas.List.Elements.{All-cons, All-head, All-map, All-nil, All-push, All-tail, All-weaker}
use Rattle.std.proofs.lemmas.List.Folds.{list_any_at}
use Rattle.std.proofs.lemmas.List.Quantifiers.{all_pairs_push}
use Rattle.problem_lines.specs.Forms.{HoldForm}
use Rattle.loop_lines.specs.Columns.{Placed}
use Rattle.problem_lines.specs.declared.number.Integer.{Integer}
use Rattle.problem_lines.specs.declared.number.Number.{Number}
use Rattle.problem_lines.specs.declared.number.Storage.{Storage}
use Rattle.problems.specs.Drafts.{AreRows, IsFile, IsOrder, IsValue}
use Rattle.problems.specs.Faults.{same_hold as same_row}
use Rattle.problems.specs.declared.draft.Hold.{Hold}
use Rattle.problems.specs.declared.draft.Order.{Order}
use Rattle.problems.specs.declared.draft.Value.{Value}
use Rattle.registers.specs.declared.value.Read.{Read}
use Rattle.problem_tables.specs.Data.{KindData, file_of, hold_in, kind_of}
use Rattle.problem_tables.specs.Faults.{alternatives_fault, alternative_room, first_of, holds_fault, new, number_or_0, on_word, room_at, same_hold, units_fault}
use Rattle.problem_tables.specs.Names.{bytes_of, has_name, index_of}
use Rattle.problem_tables.specs.Tables.{MachineParts, ProblemParts, any_value, file_faults, kind_faults, made_before, no_machine, no_problem, op_faults, order_faults, order_goes, order_of, read_faults, read_goes, read_of, value_faults, value_of, with_file, with_kind, with_op, with_order, with_read, with_value}
use Rattle.problem_faults.specs.declared.refused_problems.Part.TheVariants as part
use Rattle.problem_tables.specs.declared.fault.Told.{Told}
use Rattle.problem_faults.specs.declared.refused_problems.Wrong.{Wrong}
use Rattle.problem_faults.specs.declared.refused_problems.Wrong.TheVariants as wrong
use Rattle.problem_tables.proofs.Holding.{IsKnown, same-rows}
use Rattle.problem_tables.proofs.Naming.{place}
use Rattle.problem_reader.proofs.Faultless.{hold_list}
use Rattle.problem_reader.proofs.Faults.{delay-well, in-range, known-low, new-absent, none-at, not-true, offset-low, room-below, storage-well, well, within-iteration}
use Rattle.problem_reader.proofs.KindLines.{HasHold}
use Rattle.problem_reader.proofs.Making.{AreOnce, once-push}

-- holds

-- holds of an alternative, as far as they have been read
record AreSofar (units : List (List ℕ)) (holds : List HoldForm) : Type 0 where
  pub known : All (IsKnown units) holds
  pub few : length holds ≤ 16
  pub offsets : All (λ (hold : HoldForm). number_or_0 hold.offset ≤ 63) holds
  pub different : AllPairs (λ a b. a ≢ b) (map (hold_in units) holds)

sofar-none : (units : List (List ℕ)) → AreSofar units []
sofar-none units = record {
  known = All-nil (IsKnown units);
  few = omega arith;
  offsets = All-nil (λ (hold : HoldForm). number_or_0 hold.offset ≤ 63);
  different = λ i j d lt below. absurd (omega (arith, below));
}

row-here : (row : Hold) → same_row row row ≡ true
row-here row = and_from (row.unit == row.unit) (row.offset == row.offset) (eq-eqb row.unit row.unit refl) (eq-eqb row.offset row.offset refl)

-- a row that is none of these is another one than each of them
other-row : (row : Hold) (rows : List Hold) → list_any (same_row row) rows ≡ false → (k : ℕ) (d : Hold) → k < length rows → get_or rows k d ≢ row
other-row row rows none k d low is = both_ways (list_any (same_row row) rows) none (list_any_at (same_row row) rows k d low (ap (same_row row) is ∙ row-here row))

sofar-more : (units : List (List ℕ)) (sofar : List HoldForm) (hold : HoldForm) (holds : List HoldForm) → AreSofar units sofar → holds_fault units sofar (hold ∷ holds) ≡ None
    → AreSofar units (sofar ++ hold ∷ [])
sofar-more units sofar hold holds s h =
    let faults = hold_list units sofar hold holds in
    let known : has_name units hold.unit.bytes ≡ true = well (has_name units hold.unit.bytes) (on_word hold.unit (wrong.Unknown part.Units)) (none-at faults 1 h) in
    let room = room-below (on_word hold.unit) (length sofar) 16 part.Holds (none-at faults 0 h) in
    let size = length_push sofar hold in
    let none = same-rows units hold sofar known s.known
    ∙ not-true (list_any (same_hold hold) sofar) (well (not (list_any (same_hold hold) sofar)) (on_word hold.unit wrong.Repeated) (none-at faults 3 h)) in
    record {
      known = All-push (IsKnown units) sofar hold s.known known;
      few = omega (arith, room, size);
      offsets = All-push (λ (other : HoldForm). number_or_0 other.offset ≤ 63) sofar hold s.offsets (offset-low 63 hold.offset (none-at faults 2 h));
      different = subst (AllPairs (λ a b. a ≢ b)) (sym (map_push (hold_in units) sofar hold))
          (all_pairs_push (λ a b. a ≢ b) (map (hold_in units) sofar) (hold_in units hold) s.different (other-row (hold_in units hold) (map (hold_in units) sofar) none));
    }

sofar-all : (units : List (List ℕ)) (sofar holds : List HoldForm) → AreSofar units sofar → holds_fault units sofar holds ≡ None → AreSofar units (sofar ++ holds)
sofar-all units sofar [] s h = subst (AreSofar units) (sym (append-nil sofar)) s
sofar-all units sofar (hold ∷ holds) s h =
    subst (AreSofar units) (append_assoc sofar (hold ∷ []) holds)
    (sofar-all units (sofar ++ hold ∷ []) holds (sofar-more units sofar hold holds s h) (none-at (hold_list units sofar hold holds) 4 h))

rows-of : (units : List (List ℕ)) (holds : List HoldForm) → HasHold holds → holds_fault units [] holds ≡ None → AreRows (length units) (map (hold_in units) holds)
rows-of units holds some h =
    let all = sofar-all units [] holds (sofar-none units) h in
    let size = length-map holds (hold_in units) in
    let few = all.few in
    record {
      some = omega (arith, some, size);
      few = omega (arith, few, size);
      units = All-map (λ (row : Hold). row.unit < length units) (hold_in units) holds
          (All-weaker (IsKnown units) (λ (hold : HoldForm). index_of units hold.unit.bytes < length units) (λ hold known. (place units hold.unit.bytes).known known) holds all.known);
      offsets = All-map (λ (row : Hold). row.offset ≤ 63) (hold_in units) holds all.offsets;
      different = all.different;
    }

alternative-low : (count : ℕ) (holds : List HoldForm) → HasHold holds → alternative_room count holds ≡ None → count < 16
alternative-low count [] some h = absurd (omega (arith, some))
alternative-low count (hold ∷ holds) some h = room-below (on_word hold.unit) count 16 part.Alternatives h

alternatives-of : (units : List (List ℕ)) (count : ℕ) (alternatives : List (List HoldForm)) → count ≤ 16 → All HasHold alternatives → alternatives_fault units count alternatives ≡ None
    → (count + length alternatives ≤ 16) × All (AreRows (length units)) (map (map (hold_in units)) alternatives)
alternatives-of units count [] few held h = (omega (arith, few), All-nil (AreRows (length units)))
alternatives-of units count (holds ∷ more) few held h =
    let faults : List (Option Told) = alternative_room count holds ∷ holds_fault units [] holds ∷ alternatives_fault units (count + 1) more ∷ [] in
    let some = All-head HasHold holds more held in
    let room = alternative-low count holds some (none-at faults 0 h) in
    let after = alternatives-of units (count + 1) more (omega (arith, room)) (All-tail HasHold holds more held) (none-at faults 2 h) in
    let size = after.0 in
    (omega (arith, size), All-cons (AreRows (length units)) (map (hold_in units) holds) (map (map (hold_in units)) more) (rows-of units holds some (none-at faults 1 h)) after.1)

-- kinds

pub record IsSoundKind (units : ℕ) (kind : KindData) : Type 0 where
  pub latency_some : 1 ≤ kind.latency
  pub latency_few : kind.latency ≤ 64
  pub some : 1 ≤ length kind.alternatives
  pub few : length kind.alternatives ≤ 16
  pub rows : All (AreRows units) kind.alternatives

sound-kind : (units : List (List ℕ)) (latency : Number) (alternatives : List (List HoldForm)) → (1 ≤ latency.value) × (latency.value ≤ 64) → 1 ≤ length alternatives → All HasHold alternatives
    → alternatives_fault units 0 alternatives ≡ None → IsSoundKind (length units) (kind_of units latency alternatives)
sound-kind units latency alternatives range some held h =
    let all = alternatives-of units 0 alternatives (omega arith) held h in
    let size = length-map alternatives (map (hold_in units)) in
    let few = all.0 in
    record { latency_some = range.0; latency_few = range.1; some = omega (arith, some, size); few = omega (arith, few, size); rows = all.1 }

rows-weaker : (few many : ℕ) → few ≤ many → (rows : List Hold) → AreRows few rows → AreRows many rows
rows-weaker few many le rows h = record {
  some = h.some;
  few = h.few;
  units = All-weaker (λ (row : Hold). row.unit < few) (λ (row : Hold). row.unit < many) (λ row low. omega (arith, le, low)) rows h.units;
  offsets = h.offsets;
  different = h.different;
}

kinds-weaker : (few many : ℕ) → few ≤ many → (kinds : List KindData) → All (IsSoundKind few) kinds → All (IsSoundKind many) kinds
kinds-weaker few many le kinds all =
    All-weaker (IsSoundKind few) (IsSoundKind many) (λ kind h. record {
      latency_some = h.latency_some;
      latency_few = h.latency_few;
      some = h.some;
      few = h.few;
      rows = All-weaker (AreRows few) (AreRows many) (rows-weaker few many le) kind.alternatives h.rows;
    }) kinds all

-- machines

pub record IsSoundMachine (m : MachineParts) : Type 0 where
  pub units_few : length m.units ≤ 64
  pub units_once : AreOnce m.units
  pub files_few : length m.files ≤ 8
  pub files_named : length m.file_names ≡ length m.files
  pub files_once : AreOnce m.file_names
  pub files : All IsFile m.files
  pub kinds_few : length m.kinds ≤ 256
  pub kinds_named : length m.kind_names ≡ length m.kinds
  pub kinds_once : AreOnce m.kind_names
  pub kinds : All (IsSoundKind (length m.units)) m.kinds

pub machine-none : IsSoundMachine no_machine
machine-none = record {
  units_few = omega arith;
  units_once = tt;
  files_few = omega arith;
  files_named = refl;
  files_once = tt;
  files = All-nil IsFile;
  kinds_few = omega arith;
  kinds_named = refl;
  kinds_once = tt;
  kinds = All-nil (IsSoundKind 0);
}

units-more : (units : List (List ℕ)) (names : List Placed) → length units ≤ 64 → AreOnce units → units_fault units names ≡ None → (length (units ++ bytes_of names) ≤ 64) × AreOnce (units ++ bytes_of names)
units-more units [] few once h = subst (λ (us : List (List ℕ)). (length us ≤ 64) × AreOnce us) (sym (append-nil units)) (few, once)
units-more units (name ∷ names) few once h =
    let faults : List (Option Told) = room_at (on_word name) (length units) 64 part.Units ∷ new units name ∷ units_fault (units ++ name.bytes ∷ []) names ∷ [] in
    let room = room-below (on_word name) (length units) 64 part.Units (none-at faults 0 h) in
    let size = length_push units name.bytes in
    subst (λ (us : List (List ℕ)). (length us ≤ 64) × AreOnce us) (append_assoc units (name.bytes ∷ []) (bytes_of names))
    (units-more (units ++ name.bytes ∷ []) names (omega (arith, room, size)) (once-push units name.bytes once (new-absent units name (none-at faults 1 h))) (none-at faults 2 h))

pub machine-units : (m : MachineParts) (names : List Placed) → IsSoundMachine m → units_fault m.units names ≡ None → IsSoundMachine (record m { units = m.units ++ bytes_of names })
machine-units m names s h =
    let more = units-more m.units names s.units_few s.units_once h in
    let size : length (m.units ++ bytes_of names) ≡ length m.units + length (bytes_of names) = length-append m.units (bytes_of names) in
    record {
      units_few = more.0;
      units_once = more.1;
      files_few = s.files_few;
      files_named = s.files_named;
      files_once = s.files_once;
      files = s.files;
      kinds_few = s.kinds_few;
      kinds_named = s.kinds_named;
      kinds_once = s.kinds_once;
      kinds = kinds-weaker (length m.units) (length (m.units ++ bytes_of names)) (omega (arith, size)) m.kinds s.kinds;
    }

pub machine-file : (m : MachineParts) (told : Wrong → Told) (name : Placed) (storage : Storage) → IsSoundMachine m → first_of (file_faults m told name storage) ≡ None
    → IsSoundMachine (with_file m name storage)
machine-file m told name storage s h =
    let faults = file_faults m told name storage in
    let room = room-below told (length m.file_names) 8 part.Files (none-at faults 0 h) in
    let size = length_push m.files (file_of storage) in
    let names = length_push m.file_names name.bytes in
    let named = s.files_named in
    record {
      units_few = s.units_few;
      units_once = s.units_once;
      files_few = omega (arith, room, size, named);
      files_named = omega (arith, size, names, named);
      files_once = once-push m.file_names name.bytes s.files_once (new-absent m.file_names name (none-at faults 1 h));
      files = All-push IsFile m.files (file_of storage) s.files (storage-well storage (none-at faults 2 h));
      kinds_few = s.kinds_few;
      kinds_named = s.kinds_named;
      kinds_once = s.kinds_once;
      kinds = s.kinds;
    }

pub machine-kind : (m : MachineParts) (told : Wrong → Told) (name : Placed) (latency : Number) (alternatives : List (List HoldForm)) → IsSoundMachine m → 1 ≤ length alternatives → All HasHold alternatives
    → first_of (kind_faults m told name latency) ≡ None → alternatives_fault m.units 0 alternatives ≡ None → IsSoundMachine (with_kind m name latency alternatives)
machine-kind m told name latency alternatives s some held h none =
    let faults = kind_faults m told name latency in
    let room = room-below told (length m.kind_names) 256 part.Kinds (none-at faults 0 h) in
    let kind = kind_of m.units latency alternatives in
    let size = length_push m.kinds kind in
    let names = length_push m.kind_names name.bytes in
    let named = s.kinds_named in
    record {
      units_few = s.units_few;
      units_once = s.units_once;
      files_few = s.files_few;
      files_named = s.files_named;
      files_once = s.files_once;
      files = s.files;
      kinds_few = omega (arith, room, size, named);
      kinds_named = omega (arith, size, names, named);
      kinds_once = once-push m.kind_names name.bytes s.kinds_once (new-absent m.kind_names name (none-at faults 1 h));
      kinds = All-push (IsSoundKind (length m.units)) m.kinds kind s.kinds (sound-kind m.units latency alternatives (in-range 1 64 latency (none-at faults 2 h)) some held none);
    }

-- problems

-- a read of one of these values
pub record IsReadOf (values : List Value) (operations : ℕ) (reading : Read) : Type 0 where
  pub value : reading.value < length values
  pub reader : reading.reader < operations
  pub distance : reading.distance ≤ 16
  pub offset : reading.offset ≤ 63
  pub forward : reading.distance ≡ 0 → get_or (map (λ (v : Value). v.maker) values) reading.value 0 < reading.reader

-- on a machine that has `kinds` kinds and `files` files
pub record IsSoundProblem (kinds files : ℕ) (p : ProblemParts) : Type 0 where
  pub operations_few : length p.operations ≤ 128
  pub operations_named : length p.operation_names ≡ length p.operations
  pub operations_once : AreOnce p.operation_names
  pub operations : All (λ kind. kind < kinds) p.operations
  pub values_few : length p.values ≤ 256
  pub values_named : length p.value_names ≡ length p.values
  pub values_once : AreOnce p.value_names
  pub values : All (IsValue (length p.operations) files) p.values
  pub reads_few : length p.reads ≤ 2048
  pub reads : All (IsReadOf p.values (length p.operations)) p.reads
  pub orders_few : length p.orders ≤ 16384
  pub orders : All (IsOrder (length p.operations)) p.orders

pub problem-none : (kinds files : ℕ) → IsSoundProblem kinds files no_problem
problem-none kinds files = record {
  operations_few = omega arith;
  operations_named = refl;
  operations_once = tt;
  operations = All-nil (λ kind. kind < kinds);
  values_few = omega arith;
  values_named = refl;
  values_once = tt;
  values = All-nil (IsValue 0 files);
  reads_few = omega arith;
  reads = All-nil (IsReadOf [] 0);
  orders_few = omega arith;
  orders = All-nil (IsOrder 0);
}

values-weaker : (operations more files others : ℕ) → operations ≤ more → files ≤ others → (values : List Value) → All (IsValue operations files) values → All (IsValue more others) values
values-weaker operations more files others le lf values all =
    All-weaker (IsValue operations files) (IsValue more others) (λ value h. let maker = h.maker in let file = h.file in record { maker = omega (arith, le, maker); lands = h.lands; file = omega (arith, lf, file) }) values all

reads-weaker : (values : List Value) (operations more : ℕ) → operations ≤ more → (reads : List Read) → All (IsReadOf values operations) reads → All (IsReadOf values more) reads
reads-weaker values operations more le reads all =
    All-weaker (IsReadOf values operations) (IsReadOf values more)
    (λ reading h. let reader = h.reader in record { value = h.value; reader = omega (arith, le, reader); distance = h.distance; offset = h.offset; forward = h.forward }) reads all

orders-weaker : (operations more : ℕ) → operations ≤ more → (orders : List Order) → All (IsOrder operations) orders → All (IsOrder more) orders
orders-weaker operations more le orders all =
    All-weaker (IsOrder operations) (IsOrder more) (λ order h. let from = h.from in let to = h.to in record {
      from = omega (arith, le, from);
      to = omega (arith, le, to);
      delay_low = h.delay_low;
      delay_high = h.delay_high;
      distance = h.distance;
      forward = h.forward;
    }) orders all

-- on a machine that has more
pub problem-weaker : (kinds more files others : ℕ) (p : ProblemParts) → kinds ≤ more → files ≤ others → IsSoundProblem kinds files p → IsSoundProblem more others p
problem-weaker kinds more files others p lk lf s = record {
  operations_few = s.operations_few;
  operations_named = s.operations_named;
  operations_once = s.operations_once;
  operations = All-weaker (λ kind. kind < kinds) (λ kind. kind < more) (λ kind low. omega (arith, lk, low)) p.operations s.operations;
  values_few = s.values_few;
  values_named = s.values_named;
  values_once = s.values_once;
  values = values-weaker (length p.operations) (length p.operations) files others (omega arith) lf p.values s.values;
  reads_few = s.reads_few;
  reads = s.reads;
  orders_few = s.orders_few;
  orders = s.orders;
}

pub problem-op : (m : MachineParts) (p : ProblemParts) (told : Wrong → Told) (name kind : Placed) → IsSoundMachine m → IsSoundProblem (length m.kinds) (length m.files) p
    → first_of (op_faults m p told name kind) ≡ None → IsSoundProblem (length m.kinds) (length m.files) (with_op m p name kind)
problem-op m p told name kind sm s h =
    let faults = op_faults m p told name kind in
    let number = index_of m.kind_names kind.bytes in
    let room = room-below told (length p.operation_names) 128 part.Operations (none-at faults 0 h) in
    let low = known-low m.kind_names part.Kinds kind (none-at faults 2 h) in
    let size = length_push p.operations number in
    let names = length_push p.operation_names name.bytes in
    let named = s.operations_named in
    let kinds = sm.kinds_named in
    let more : length p.operations ≤ length (p.operations ++ number ∷ []) = omega (arith, size) in
    record {
      operations_few = omega (arith, room, size, named);
      operations_named = omega (arith, size, names, named);
      operations_once = once-push p.operation_names name.bytes s.operations_once (new-absent p.operation_names name (none-at faults 1 h));
      operations = All-push (λ k. k < length m.kinds) p.operations number s.operations (omega (arith, low, kinds));
      values_few = s.values_few;
      values_named = s.values_named;
      values_once = s.values_once;
      values = values-weaker (length p.operations) (length (p.operations ++ number ∷ [])) (length m.files) (length m.files) more (omega arith) p.values s.values;
      reads_few = s.reads_few;
      reads = reads-weaker p.values (length p.operations) (length (p.operations ++ number ∷ [])) more p.reads s.reads;
      orders_few = s.orders_few;
      orders = orders-weaker (length p.operations) (length (p.operations ++ number ∷ [])) more p.orders s.orders;
    }

-- a value more leaves the makers of the others
maker-kept : (values : List Value) (value : Value) (k : ℕ) → k < length values
    → get_or (map (λ (v : Value). v.maker) (values ++ value ∷ [])) k 0 ≡ get_or (map (λ (v : Value). v.maker) values) k 0
maker-kept values value k low =
    let size = length-map values (λ (v : Value). v.maker) in
    ap (λ ms. get_or ms k 0) (map_push (λ (v : Value). v.maker) values value)
    ∙ get_or_append_left (map (λ (v : Value). v.maker) values) (value.maker ∷ []) 0 k (omega (arith, size, low))

reads-kept : (values : List Value) (value : Value) (operations : ℕ) (reads : List Read) → All (IsReadOf values operations) reads → All (IsReadOf (values ++ value ∷ []) operations) reads
reads-kept values value operations reads all =
    All-weaker (IsReadOf values operations) (IsReadOf (values ++ value ∷ []) operations) (λ reading h.
    let low = h.value in
    let size = length_push values value in
    record {
      value = omega (arith, low, size);
      reader = h.reader;
      distance = h.distance;
      offset = h.offset;
      forward = λ none. let before = h.forward none in let same = maker-kept values value reading.value low in omega (arith, before, same);
    }) reads all

pub problem-value : (m : MachineParts) (p : ProblemParts) (told : Wrong → Told) (name maker : Placed) (lands : Number) (stored : Placed) (out : Bool) → IsSoundMachine m
    → IsSoundProblem (length m.kinds) (length m.files) p → first_of (value_faults m p told name maker lands stored) ≡ None
    → IsSoundProblem (length m.kinds) (length m.files) (with_value p name (value_of m p maker lands stored out))
problem-value m p told name maker lands stored out sm s h =
    let faults = value_faults m p told name maker lands stored in
    let value = value_of m p maker lands stored out in
    let room = room-below told (length p.value_names) 256 part.Values (none-at faults 0 h) in
    let made = known-low p.operation_names part.Operations maker (none-at faults 2 h) in
    let kept = known-low m.file_names part.Files stored (none-at faults 4 h) in
    let size = length_push p.values value in
    let names = length_push p.value_names name.bytes in
    let named = s.values_named in
    let operations = s.operations_named in
    let files = sm.files_named in
    record {
      operations_few = s.operations_few;
      operations_named = s.operations_named;
      operations_once = s.operations_once;
      operations = s.operations;
      values_few = omega (arith, room, size, named);
      values_named = omega (arith, size, names, named);
      values_once = once-push p.value_names name.bytes s.values_once (new-absent p.value_names name (none-at faults 1 h));
      values = All-push (IsValue (length p.operations) (length m.files)) p.values value s.values
          (record { maker = omega (arith, made, operations); lands = (in-range 0 64 lands (none-at faults 3 h)).1; file = omega (arith, kept, files) });
      reads_few = s.reads_few;
      reads = reads-kept p.values value (length p.operations) p.reads s.reads;
      orders_few = s.orders_few;
      orders = s.orders;
    }

-- the value with a number is made before an operation
made-forward : (values : List Value) (number reader : ℕ) → number < length values → made_before values number reader ≡ true → get_or (map (λ (v : Value). v.maker) values) number 0 < reader
made-forward values number reader low h =
    let is : made_before values number reader ≡ nat_lt (get_or values number any_value).maker reader =
    ap (λ b. if b then nat_lt (get_or values number any_value).maker reader else true) (lt-ltb number (length values) low) in
    let before = ltb-true (get_or values number any_value).maker reader (sym is ∙ h) in
    let same = get_or-map (λ (v : Value). v.maker) values number any_value 0 low in
    omega (arith, before, same)

pub problem-read : (kinds files : ℕ) (p : ProblemParts) (told : Wrong → Told) (reader value : Placed) (distance offset : Option Number) → IsSoundProblem kinds files p
    → first_of (read_faults p told reader value distance offset) ≡ None → IsSoundProblem kinds files (with_read p (read_of p reader value distance offset))
problem-read kinds files p told reader value distance offset s h =
    let faults = read_faults p told reader value distance offset in
    let reading = read_of p reader value distance offset in
    let room = room-below told (length p.reads) 2048 part.Reads (none-at faults 0 h) in
    let reads = known-low p.operation_names part.Operations reader (none-at faults 1 h) in
    let known = known-low p.value_names part.Values value (none-at faults 2 h) in
    let size = length_push p.reads reading in
    let operations = s.operations_named in
    let values = s.values_named in
    let low : reading.value < length p.values = omega (arith, known, values) in
    let goes = well (read_goes p reading) (on_word value wrong.Backward) (none-at faults 5 h) in
    record {
      operations_few = s.operations_few;
      operations_named = s.operations_named;
      operations_once = s.operations_once;
      operations = s.operations;
      values_few = s.values_few;
      values_named = s.values_named;
      values_once = s.values_once;
      values = s.values;
      reads_few = omega (arith, room, size);
      reads = All-push (IsReadOf p.values (length p.operations)) p.reads reading s.reads (record {
        value = low;
        reader = omega (arith, reads, operations);
        distance = offset-low 16 distance (none-at faults 3 h);
        offset = offset-low 63 offset (none-at faults 4 h);
        forward = λ none. made-forward p.values reading.value reading.reader low (within-iteration reading.distance (made_before p.values reading.value reading.reader) goes none);
      });
      orders_few = s.orders_few;
      orders = s.orders;
    }

pub problem-order : (kinds files : ℕ) (p : ProblemParts) (told : Wrong → Told) (from to : Placed) (delay : Integer) (distance : Number) → IsSoundProblem kinds files p
    → first_of (order_faults p told from to delay distance) ≡ None → IsSoundProblem kinds files (with_order p (order_of p from to delay distance))
problem-order kinds files p told from to delay distance s h =
    let faults = order_faults p told from to delay distance in
    let order = order_of p from to delay distance in
    let room = room-below told (length p.orders) 16384 part.Edges (none-at faults 0 h) in
    let first = known-low p.operation_names part.Operations from (none-at faults 1 h) in
    let second = known-low p.operation_names part.Operations to (none-at faults 2 h) in
    let size = length_push p.orders order in
    let operations = s.operations_named in
    let delays = delay-well delay (none-at faults 3 h) in
    let goes = well (order_goes order) (on_word to wrong.Backward) (none-at faults 5 h) in
    record {
      operations_few = s.operations_few;
      operations_named = s.operations_named;
      operations_once = s.operations_once;
      operations = s.operations;
      values_few = s.values_few;
      values_named = s.values_named;
      values_once = s.values_once;
      values = s.values;
      reads_few = s.reads_few;
      reads = s.reads;
      orders_few = omega (arith, room, size);
      orders = All-push (IsOrder (length p.operations)) p.orders order s.orders (record {
        from = omega (arith, first, operations);
        to = omega (arith, second, operations);
        delay_low = delays.0;
        delay_high = delays.1;
        distance = (in-range 0 255 distance (none-at faults 4 h)).1;
        forward = λ none. ltb-true order.from order.to (within-iteration order.distance (nat_lt order.from order.to) goes none);
      });
    }
