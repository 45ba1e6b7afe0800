-- The first thing that is wrong with a draft.
use Rattle.std.specs.Prelude.{ℕ, neg_ℤ, ◌+◌, ◌==◌, ◌&&◌, ◌||◌, not, nat_lt, nat_le, int_le, Bool, true, false, List, [], ◌∷◌, length, take, Option, Some, None}
use Rattle.machine_data.specs.declared.limits.TheConstants.{MAX_DELAY, MAX_DISTANCE, MAX_FILES, MAX_KINDS, MAX_LATENCY, MAX_OFFSET, MAX_OPERATION_ALTERNATIVES, MAX_ORDERS, MAX_ORDER_DISTANCE, MAX_READS, MAX_REGISTERS, MAX_ROWS, MAX_STATEMENTS, MAX_UNITS, MAX_VALUES}
use Rattle.std.specs.List.{list_any}
use Rattle.std.specs.Option.{option_or}
use Rattle.smallvec.specs.SmallVec.{SmallVec}
use Rattle.machine_data.specs.Opcodes.{same_word}
use Rattle.registers.specs.declared.value.Read.{Read}
use Rattle.problems.specs.declared.draft.File.{File}
use Rattle.problems.specs.declared.draft.File.TheVariants.{Rotating, Unallotted}
use Rattle.problems.specs.declared.draft.Hold.{Hold}
use Rattle.problems.specs.declared.draft.Kind.{Kind}
use Rattle.problems.specs.declared.draft.Value.{Value}
use Rattle.problems.specs.declared.draft.Order.{Order}
use Rattle.problems.specs.declared.draft.Draft.{Draft}
use Rattle.problems.specs.declared.fault.Part.{Part}
use Rattle.problems.specs.declared.fault.Part.TheVariants.{Units, Files, Kinds, Operations, Values, Reads, Orders}
use Rattle.problems.specs.declared.fault.Fault.{Fault}
use Rattle.problems.specs.declared.fault.Fault.TheVariants.{Count, NameCount, Repeated, Registers, Latency, Alternatives, Rows, NoUnit, Offset, RepeatedRow, NoKind, NoMaker, Lands, NoFile, NoValue, NoReader, Distance, ReadOffset, ReadBackward, NoFrom, NoTo, Delay, OrderDistance, OrderBackward}
use Rattle.problems.specs.Drafts.{maker_of}

-- no fault where it is so, and else this one
abbrev pub unless : Bool → Fault → Option Fault
unless true fault = None
unless false fault = Some fault

-- the first of some faults
abbrev pub first_of : List (Option Fault) → Option Fault
first_of [] = None
first_of (fault ∷ faults) = option_or fault (first_of faults)

-- the first fault in a list whose items are numbered from a number on
abbrev pub first_among : {X : Type 0} → (ℕ → X → Option Fault) → ℕ → List X → Option Fault
first_among fault_of number [] = None
first_among fault_of number (x ∷ xs) = option_or (fault_of number x) (first_among fault_of (number + 1) xs)

-- the first fault in a list whose items are numbered from 0
abbrev pub first_in : {X : Type 0} → (ℕ → X → Option Fault) → List X → Option Fault
first_in fault_of xs = first_among fault_of 0 xs

abbrev pub within : ℕ → ℕ → ℕ → Bool
within least greatest n = nat_le least n && nat_le n greatest

-- counts

abbrev pub count_fault : Draft → Option Fault
count_fault draft = first_of (
    unless (within 1 MAX_UNITS draft.units) (Count Units draft.units)
    ∷ unless (nat_le (length draft.files.items) MAX_FILES) (Count Files (length draft.files.items))
    ∷ unless (within 1 MAX_KINDS (length draft.kinds.items)) (Count Kinds (length draft.kinds.items))
    ∷ unless (within 1 MAX_STATEMENTS (length draft.operations.items)) (Count Operations (length draft.operations.items))
    ∷ unless (nat_le (length draft.values.items) MAX_VALUES) (Count Values (length draft.values.items))
    ∷ unless (nat_le (length draft.reads.items) MAX_READS) (Count Reads (length draft.reads.items))
    ∷ unless (nat_le (length draft.orders.items) MAX_ORDERS) (Count Orders (length draft.orders.items))
    ∷ [])

-- names

-- one of the names before the one with a number is the same
abbrev pub is_repeated : List (List ℕ) → ℕ → List ℕ → Bool
is_repeated names number name = list_any (same_word name) (take number names)

-- of the name with a number among the names of a part
abbrev pub repeat_fault : Part → List (List ℕ) → ℕ → List ℕ → Option Fault
repeat_fault part names number name = unless (not (is_repeated names number name)) (Repeated part number)

-- of a part of which there are `count`
abbrev pub name_fault : Part → ℕ → List (List ℕ) → Option Fault
name_fault part count names = first_of (
    unless (length names == 0 || length names == count) (NameCount part)
    ∷ first_in (repeat_fault part names) names
    ∷ [])

abbrev pub names_fault : Draft → Option Fault
names_fault draft = first_of (
    name_fault Units draft.units draft.names.units.items
    ∷ name_fault Files (length draft.files.items) draft.names.files.items
    ∷ name_fault Kinds (length draft.kinds.items) draft.names.kinds.items
    ∷ name_fault Operations (length draft.operations.items) draft.names.operations.items
    ∷ name_fault Values (length draft.values.items) draft.names.values.items
    ∷ [])

-- register files

abbrev pub file_fault : ℕ → File → Option Fault
file_fault number (Rotating registers) = unless (within 1 MAX_REGISTERS registers) (Registers number)
file_fault number Unallotted = None

-- kinds

abbrev pub same_hold : Hold → Hold → Bool
same_hold a b = (a.unit == b.unit) && (a.offset == b.offset)

-- of the row with a number among the rows of an alternative, by the numbers of the kind and of the alternative
abbrev pub row_fault : ℕ → ℕ → ℕ → List Hold → ℕ → Hold → Option Fault
row_fault units kind alternative rows number row = first_of (
    unless (nat_lt row.unit units) (NoUnit kind alternative number)
    ∷ unless (nat_le row.offset MAX_OFFSET) (Offset kind alternative number)
    ∷ unless (not (list_any (same_hold row) (take number rows))) (RepeatedRow kind alternative number)
    ∷ [])

abbrev pub alternative_fault : ℕ → ℕ → ℕ → List Hold → Option Fault
alternative_fault units kind alternative rows = first_of (
    unless (within 1 MAX_ROWS (length rows)) (Rows kind alternative)
    ∷ first_in (row_fault units kind alternative rows) rows
    ∷ [])

abbrev pub kind_fault : ℕ → ℕ → Kind → Option Fault
kind_fault units number kind = first_of (
    unless (within 1 MAX_LATENCY kind.latency) (Latency number)
    ∷ unless (within 1 MAX_OPERATION_ALTERNATIVES (length kind.alternatives.items)) (Alternatives number)
    ∷ first_in (λ alternative (rows : SmallVec Hold). alternative_fault units number alternative rows.items) kind.alternatives.items
    ∷ [])

-- operations, values, reads and orders

abbrev pub operation_fault : ℕ → ℕ → ℕ → Option Fault
operation_fault kinds number kind = unless (nat_lt kind kinds) (NoKind number)

abbrev pub value_fault : ℕ → ℕ → ℕ → Value → Option Fault
value_fault operations files number value = first_of (
    unless (nat_lt value.maker operations) (NoMaker number)
    ∷ unless (nat_le value.lands MAX_LATENCY) (Lands number)
    ∷ unless (nat_lt value.file files) (NoFile number)
    ∷ [])

abbrev pub read_fault : Draft → ℕ → Read → Option Fault
read_fault draft number reading = first_of (
    unless (nat_lt reading.value (length draft.values.items)) (NoValue number)
    ∷ unless (nat_lt reading.reader (length draft.operations.items)) (NoReader number)
    ∷ unless (nat_le reading.distance MAX_DISTANCE) (Distance number)
    ∷ unless (nat_le reading.offset MAX_OFFSET) (ReadOffset number)
    ∷ unless (nat_lt 0 reading.distance || nat_lt (maker_of draft reading.value) reading.reader) (ReadBackward number)
    ∷ [])

abbrev pub order_fault : ℕ → ℕ → Order → Option Fault
order_fault operations number order = first_of (
    unless (nat_lt order.from operations) (NoFrom number)
    ∷ unless (nat_lt order.to operations) (NoTo number)
    ∷ unless (int_le (neg_ℤ MAX_DELAY) order.delay && int_le order.delay MAX_DELAY) (Delay number)
    ∷ unless (nat_le order.distance MAX_ORDER_DISTANCE) (OrderDistance number)
    ∷ unless (nat_lt 0 order.distance || nat_lt order.from order.to) (OrderBackward number)
    ∷ [])

-- all

-- apart from counts and names
abbrev pub part_fault : Draft → Option Fault
part_fault draft = first_of (
    first_in file_fault draft.files.items
    ∷ first_in (kind_fault draft.units) draft.kinds.items
    ∷ first_in (operation_fault (length draft.kinds.items)) draft.operations.items
    ∷ first_in (value_fault (length draft.operations.items) (length draft.files.items)) draft.values.items
    ∷ first_in (read_fault draft) draft.reads.items
    ∷ first_in (order_fault (length draft.operations.items)) draft.orders.items
    ∷ [])

-- the first thing that is wrong with a draft
abbrev pub first_fault_of : Draft → Option Fault
first_fault_of draft = first_of (count_fault draft ∷ names_fault draft ∷ part_fault draft ∷ [])
