-- A draft without a fault is well formed, and the other way round.
use Rattle.std.proofs.Common.{◌≡◌, ℕ, pos, negsuc, ◌<◌, ◌≤◌, ◌⊎◌, true, false, List, length, take, get_or, refl, ap, ◌∙◌}
use Rattle.std.specs.Prelude.{◌≤ℤ◌, ◌==◌, Option}
use Rattle.std.specs.List.{All, list_any}
use Rattle.std.proofs.lemmas.Bool.{eqb-true, eq-eqb, and_parts, and_from}
use Rattle.std.proofs.lemmas.Slice.Eq.{bytes_eq-Decides}
use Rattle.smallvec.specs.SmallVec.{SmallVec}
use Rattle.machine_data.specs.Opcodes.{same_word}
use Rattle.registers.specs.declared.value.Read.{Read}
use Rattle.problems.specs.declared.draft.File.{File}
use Rattle.problems.specs.declared.draft.File.TheVariants.{Rotating, Unallotted}
use Rattle.problems.specs.declared.draft.Hold.{Hold}
use Rattle.problems.specs.declared.draft.Kind.{Kind}
use Rattle.problems.specs.declared.draft.Value.{Value}
use Rattle.problems.specs.declared.draft.Order.{Order}
use Rattle.problems.specs.declared.draft.Draft.{Draft}
use Rattle.problems.specs.declared.fault.Part.{Part}
use Rattle.problems.specs.declared.fault.Part.TheVariants.{Units, Files, Kinds, Operations, Values, Reads, Orders}
use Rattle.problems.specs.declared.fault.Fault.{Fault}
use Rattle.problems.specs.declared.fault.Fault.TheVariants.{Count, NameCount, Repeated, Registers, Latency, Alternatives, Rows, NoUnit, Offset, RepeatedRow, NoKind, NoMaker, Lands, NoFile, NoValue, NoReader, Distance, ReadOffset, ReadBackward, NoFrom, NoTo, Delay, OrderDistance, OrderBackward}
use Rattle.problems.specs.Drafts.{maker_of, AreNames, IsFile, AreRows, IsKind, IsValue, IsRead, IsOrder, AreCounts, AreAllNames, IsWellFormed}
use Rattle.problems.specs.Faults.{is_repeated, repeat_fault, name_fault, names_fault, file_fault, same_hold, row_fault, alternative_fault, kind_fault, operation_fault, value_fault, read_fault, order_fault, count_fault, part_fault, first_fault_of}
use Rattle.problems.proofs.faults.Apart.{pairs-from_none, none-from_pairs}
use Rattle.problems.proofs.faults.Says.{Says, says-both, says-last, says-below, says-most, says-within, says-between, says-forward, says-either, says-not, says-in}

-- the same fact in other words
said : (o : Option Fault) (P Q : Type 0) → (P → Q) → (Q → P) → Says o P → Says o Q
said o P Q to from says = (λ h. to (says.0 h), λ h. says.1 (from h))

-- values, reads and orders

value-says : (operations files number : ℕ) (v : Value) → Says (value_fault operations files number v) (IsValue operations files v)
value-says operations files number v =
    said (value_fault operations files number v) ((v.maker < operations) × ((v.lands ≤ 64) × (v.file < files))) (IsValue operations files v)
    (λ h. record { maker = h.0; lands = h.1.0; file = h.1.1 })
    (λ h. (h.maker, (h.lands, h.file)))
    (says-both _ _ _ _ (says-below v.maker operations (NoMaker number)) (says-both _ _ _ _ (says-most v.lands 64 (Lands number)) (says-last _ _ (says-below v.file files (NoFile number)))))

read-says : (draft : Draft) (number : ℕ) (r : Read) → Says (read_fault draft number r) (IsRead draft r)
read-says draft number r =
    said (read_fault draft number r)
    ((r.value < length draft.values.items) × ((r.reader < length draft.operations.items) × ((r.distance ≤ 16) × ((r.offset ≤ 63) × (r.distance ≡ 0 → maker_of draft r.value < r.reader)))))
    (IsRead draft r)
    (λ h. record { value = h.0; reader = h.1.0; distance = h.1.1.0; offset = h.1.1.1.0; forward = h.1.1.1.1 })
    (λ h. (h.value, (h.reader, (h.distance, (h.offset, h.forward)))))
    (says-both _ _ _ _ (says-below r.value (length draft.values.items) (NoValue number))
    (says-both _ _ _ _ (says-below r.reader (length draft.operations.items) (NoReader number))
    (says-both _ _ _ _ (says-most r.distance 16 (Distance number))
    (says-both _ _ _ _ (says-most r.offset 63 (ReadOffset number))
    (says-last _ _ (says-forward r.distance (maker_of draft r.value) r.reader (ReadBackward number)))))))

order-says : (operations number : ℕ) (o : Order) → Says (order_fault operations number o) (IsOrder operations o)
order-says operations number o =
    said (order_fault operations number o)
    ((o.from < operations) × ((o.to < operations) × (((negsuc 63 ≤ℤ o.delay) × (o.delay ≤ℤ pos 64)) × ((o.distance ≤ 255) × (o.distance ≡ 0 → o.from < o.to)))))
    (IsOrder operations o)
    (λ h. record { from = h.0; to = h.1.0; delay_low = h.1.1.0.0; delay_high = h.1.1.0.1; distance = h.1.1.1.0; forward = h.1.1.1.1 })
    (λ h. (h.from, (h.to, ((h.delay_low, h.delay_high), (h.distance, h.forward)))))
    (says-both _ _ _ _ (says-below o.from operations (NoFrom number))
    (says-both _ _ _ _ (says-below o.to operations (NoTo number))
    (says-both _ _ _ _ (says-between (negsuc 63) (pos 64) o.delay (Delay number))
    (says-both _ _ _ _ (says-most o.distance 255 (OrderDistance number))
    (says-last _ _ (says-forward o.distance o.from o.to (OrderBackward number)))))))

-- register files

file-says : (number : ℕ) (file : File) → Says (file_fault number file) (IsFile file)
file-says number (Rotating registers) = says-within 1 256 registers (Registers number)
file-says number Unallotted = (λ h. tt, λ h. refl)

-- kinds

pub hold-equal : (a b : Hold) → same_hold a b ≡ true → a ≡ b
hold-equal a b h =
    let both = and_parts (a.unit == b.unit) (a.offset == b.offset) h in
    ap (λ n. record { unit = n; offset = a.offset }) (eqb-true a.unit b.unit both.0) ∙ ap (λ n. record { unit = b.unit; offset = n }) (eqb-true a.offset b.offset both.1)

equal-hold : (a b : Hold) → a ≡ b → same_hold a b ≡ true
equal-hold a b e =
    and_from (a.unit == b.unit) (a.offset == b.offset) (eq-eqb a.unit b.unit (ap (λ (h : Hold). h.unit) e)) (eq-eqb a.offset b.offset (ap (λ (h : Hold). h.offset) e))

abbrev RowParts : ℕ → List Hold → ℕ → Hold → Type 0
RowParts units rows number row = (row.unit < units) × ((row.offset ≤ 63) × (list_any (same_hold row) (take number rows) ≡ false))

row-says : (units kind alternative : ℕ) (rows : List Hold) (number : ℕ) (row : Hold) → Says (row_fault units kind alternative rows number row) (RowParts units rows number row)
row-says units kind alternative rows number row =
    says-both _ _ _ _ (says-below row.unit units (NoUnit kind alternative number))
    (says-both _ _ _ _ (says-most row.offset 63 (Offset kind alternative number))
    (says-last _ _ (says-not (list_any (same_hold row) (take number rows)) (RepeatedRow kind alternative number))))

alternative-says : (units kind alternative : ℕ) (rows : List Hold) → Says (alternative_fault units kind alternative rows) (AreRows units rows)
alternative-says units kind alternative rows =
    said (alternative_fault units kind alternative rows)
    (((1 ≤ length rows) × (length rows ≤ 16)) × ((k : ℕ) (d : Hold) → k < length rows → RowParts units rows k (get_or rows k d)))
    (AreRows units rows)
    (λ h. record {
      some = h.0.0;
      few = h.0.1;
      units = λ k d lt. (h.1 k d lt).0;
      offsets = λ k d lt. (h.1 k d lt).1.0;
      different = pairs-from_none same_hold equal-hold rows (λ k d lt. (h.1 k d lt).1.1);
    })
    (λ h. ((h.some, h.few), λ k d lt. (h.units k d lt, (h.offsets k d lt, none-from_pairs same_hold hold-equal rows h.different k d lt))))
    (says-both _ _ _ _ (says-within 1 16 (length rows) (Rows kind alternative))
    (says-last _ _ (says-in (row_fault units kind alternative rows) (RowParts units rows) rows (row-says units kind alternative rows))))

kind-says : (units number : ℕ) (kind : Kind) → Says (kind_fault units number kind) (IsKind units kind)
kind-says units number kind =
    said (kind_fault units number kind)
    (((1 ≤ kind.latency) × (kind.latency ≤ 64)) × (((1 ≤ length kind.alternatives.items) × (length kind.alternatives.items ≤ 16))
    × All (λ (rows : SmallVec Hold). AreRows units rows.items) kind.alternatives.items))
    (IsKind units kind)
    (λ h. record { latency_some = h.0.0; latency_few = h.0.1; alternatives_some = h.1.0.0; alternatives_few = h.1.0.1; alternatives = h.1.1 })
    (λ h. ((h.latency_some, h.latency_few), ((h.alternatives_some, h.alternatives_few), h.alternatives)))
    (says-both _ _ _ _ (says-within 1 64 kind.latency (Latency number))
    (says-both _ _ _ _ (says-within 1 16 (length kind.alternatives.items) (Alternatives number))
    (says-last _ _ (says-in (λ alternative (rows : SmallVec Hold). alternative_fault units number alternative rows.items) (λ alternative rows. AreRows units rows.items)
    kind.alternatives.items (λ alternative rows. alternative-says units number alternative rows.items)))))

-- names

word-equal : (a b : List ℕ) → same_word a b ≡ true → a ≡ b
word-equal a b h = (bytes_eq-Decides a b).0 h

equal-word : (a b : List ℕ) → a ≡ b → same_word a b ≡ true
equal-word a b e = (bytes_eq-Decides a b).1 e

name-says : (part : Part) (count : ℕ) (names : List (List ℕ)) → Says (name_fault part count names) (AreNames count names)
name-says part count names =
    said (name_fault part count names)
    (((length names ≡ 0) ⊎ (length names ≡ count)) × ((k : ℕ) (d : List ℕ) → k < length names → is_repeated names k (get_or names k d) ≡ false))
    (AreNames count names)
    (λ h. record { each = h.0; different = pairs-from_none same_word equal-word names h.1 })
    (λ h. (h.each, none-from_pairs same_word word-equal names h.different))
    (says-both _ _ _ _ (says-either (length names) count (NameCount part))
    (says-last _ _ (says-in (repeat_fault part names) (λ number name. is_repeated names number name ≡ false) names
    (λ number name. says-not (is_repeated names number name) (Repeated part number)))))

names-says : (draft : Draft) → Says (names_fault draft) (AreAllNames draft)
names-says draft =
    said (names_fault draft)
    (AreNames draft.units draft.names.units.items × (AreNames (length draft.files.items) draft.names.files.items
    × (AreNames (length draft.kinds.items) draft.names.kinds.items × (AreNames (length draft.operations.items) draft.names.operations.items
    × AreNames (length draft.values.items) draft.names.values.items))))
    (AreAllNames draft)
    (λ h. record { units = h.0; files = h.1.0; kinds = h.1.1.0; operations = h.1.1.1.0; values = h.1.1.1.1 })
    (λ h. (h.units, (h.files, (h.kinds, (h.operations, h.values)))))
    (says-both _ _ _ _ (name-says Units draft.units draft.names.units.items)
    (says-both _ _ _ _ (name-says Files (length draft.files.items) draft.names.files.items)
    (says-both _ _ _ _ (name-says Kinds (length draft.kinds.items) draft.names.kinds.items)
    (says-both _ _ _ _ (name-says Operations (length draft.operations.items) draft.names.operations.items)
    (says-last _ _ (name-says Values (length draft.values.items) draft.names.values.items))))))

-- counts

counts-says : (draft : Draft) → Says (count_fault draft) (AreCounts draft)
counts-says draft =
    said (count_fault draft)
    (((1 ≤ draft.units) × (draft.units ≤ 64)) × ((length draft.files.items ≤ 8) × (((1 ≤ length draft.kinds.items) × (length draft.kinds.items ≤ 256))
    × (((1 ≤ length draft.operations.items) × (length draft.operations.items ≤ 128)) × ((length draft.values.items ≤ 256) × ((length draft.reads.items ≤ 2048)
    × (length draft.orders.items ≤ 16384)))))))
    (AreCounts draft)
    (λ h. record {
      units_some = h.0.0;
      units_few = h.0.1;
      files_few = h.1.0;
      kinds_some = h.1.1.0.0;
      kinds_few = h.1.1.0.1;
      operations_some = h.1.1.1.0.0;
      operations_few = h.1.1.1.0.1;
      values_few = h.1.1.1.1.0;
      reads_few = h.1.1.1.1.1.0;
      orders_few = h.1.1.1.1.1.1;
    })
    (λ h. ((h.units_some, h.units_few), (h.files_few, ((h.kinds_some, h.kinds_few), ((h.operations_some, h.operations_few), (h.values_few, (h.reads_few, h.orders_few)))))))
    (says-both _ _ _ _ (says-within 1 64 draft.units (Count Units draft.units))
    (says-both _ _ _ _ (says-most (length draft.files.items) 8 (Count Files (length draft.files.items)))
    (says-both _ _ _ _ (says-within 1 256 (length draft.kinds.items) (Count Kinds (length draft.kinds.items)))
    (says-both _ _ _ _ (says-within 1 128 (length draft.operations.items) (Count Operations (length draft.operations.items)))
    (says-both _ _ _ _ (says-most (length draft.values.items) 256 (Count Values (length draft.values.items)))
    (says-both _ _ _ _ (says-most (length draft.reads.items) 2048 (Count Reads (length draft.reads.items)))
    (says-last _ _ (says-most (length draft.orders.items) 16384 (Count Orders (length draft.orders.items))))))))))

-- all

abbrev PartParts : Draft → Type 0
PartParts draft = All IsFile draft.files.items × (All (IsKind draft.units) draft.kinds.items × (All (λ kind. kind < length draft.kinds.items) draft.operations.items
    × (All (IsValue (length draft.operations.items) (length draft.files.items)) draft.values.items × (All (IsRead draft) draft.reads.items
    × All (IsOrder (length draft.operations.items)) draft.orders.items))))

parts-say : (draft : Draft) → Says (part_fault draft) (PartParts draft)
parts-say draft =
    let operations : ℕ = length draft.operations.items in
    let files : ℕ = length draft.files.items in
    let kinds : ℕ = length draft.kinds.items in
    says-both _ _ _ _ (says-in file_fault (λ number. IsFile) draft.files.items file-says)
    (says-both _ _ _ _ (says-in (kind_fault draft.units) (λ number. IsKind draft.units) draft.kinds.items (kind-says draft.units))
    (says-both _ _ _ _ (says-in (operation_fault kinds) (λ number kind. kind < kinds) draft.operations.items (λ number kind. says-below kind kinds (NoKind number)))
    (says-both _ _ _ _ (says-in (value_fault operations files) (λ number. IsValue operations files) draft.values.items (value-says operations files))
    (says-both _ _ _ _ (says-in (read_fault draft) (λ number. IsRead draft) draft.reads.items (read-says draft))
    (says-last _ _ (says-in (order_fault operations) (λ number. IsOrder operations) draft.orders.items (order-says operations)))))))

pub sound-well_formed : (draft : Draft) → Says (first_fault_of draft) (IsWellFormed draft)
sound-well_formed draft =
    said (first_fault_of draft) (AreCounts draft × (AreAllNames draft × PartParts draft)) (IsWellFormed draft)
    (λ h. record { counts = h.0; names = h.1.0; files = h.1.1.0; kinds = h.1.1.1.0; operations = h.1.1.1.1.0; values = h.1.1.1.1.1.0; reads = h.1.1.1.1.1.1.0; orders = h.1.1.1.1.1.1.1 })
    (λ h. (h.counts, (h.names, (h.files, (h.kinds, (h.operations, (h.values, (h.reads, h.orders))))))))
    (says-both _ _ _ _ (counts-says draft) (says-both _ _ _ _ (names-says draft) (says-last _ _ (parts-say draft))))
