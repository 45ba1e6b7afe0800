-- Machines with one more unit.
use Rattle.std.proofs.Common.{◌≡◌, ◌<◌, ◌≤◌, ◌+◌, ℕ, Bool, true, false, List, length, map, filter, get_or, refl, sym, ap, ◌∙◌, subst, arith}
use Rattle.std.specs.Prelude.{Option, Some, None, option_map, nat_lt, if◌then◌else◌, ◌==◌, count_by}
use Rattle.std.specs.List.{All, list_any}
use Rattle.std.proofs.lemmas.Bool.{eqb-true, ltb-false, or_parts}
use Rattle.std.proofs.lemmas.List.{get_or-map, length-append, length-map}
use Rattle.std.proofs.lemmas.List.Elements.{All-append, All-filter, All-map}
use Rattle.std.proofs.lemmas.List.Sums.{length-filter}
use Rattle.machine_data.specs.declared.alternative.Row.{Row}
use Rattle.machine_data.specs.declared.opcode.Opcode.{Opcode}
use Rattle.machine_data.specs.Alternative.{AreAlternatives, IsAlternative}
use Rattle.machine_data.specs.Machines.{IsMachine, IsOperation, MachineData, OperationData, UsesUnits, table_of}
use Rattle.machine_data.specs.Opcodes.{all_opcodes}
use Rattle.graph.specs.Units.{alternatives_in}
use Rattle.machine_variants.specs.declared.variant.Variant.TheVariants.{Doubled}
use Rattle.machine_variants.specs.Variants.{doubled_table, moved, moved_row, numbered, passes_limit, takes, varied, with_copies}
use Rattle.machine_variants.proofs.Names.{numbered-different, numbered-long, numbered-named}
use Rattle.machine_variants.proofs.OfOpcodes.{none-has, table-at}

-- rows below a number
abbrev pub AreBelow : ℕ → List Row → Type 0
AreBelow n rows = All (λ (r : Row). r.unit < n) rows

either-below : (here : Bool) (new unit bound : ℕ) → new < bound → unit < bound → (if here then new else unit) < bound
either-below true new unit bound a b = a
either-below false new unit bound a b = b

unit-same : (x y : Bool) (new a b unit : ℕ) → (x ≡ true → a ≡ unit) → (y ≡ true → b ≡ unit) → a < new → b < new
    → (if x then new else a) ≡ (if y then new else b) → a ≡ b
unit-same true true new a b unit p q low high e = p refl ∙ sym (q refl)
unit-same true false new a b unit p q low high e = let same : new ≡ b = e in absurd (omega (arith, same, high))
unit-same false true new a b unit p q low high e = let same : a ≡ new = e in absurd (omega (arith, same, low))
unit-same false false new a b unit p q low high e = e

moved-one : (unit new : ℕ) (x y : Row) → x.unit < new → y.unit < new → moved_row unit new x ≡ moved_row unit new y → x ≡ y
moved-one unit new x y low high e =
    let units : x.unit ≡ y.unit =
    unit-same (x.unit == unit) (y.unit == unit) new x.unit y.unit unit (eqb-true x.unit unit) (eqb-true y.unit unit) low high (ap (λ (r : Row). r.unit) e) in
    let offsets : x.offset ≡ y.offset = ap (λ (r : Row). r.offset) e in
    λ i. record { unit = units i; offset = offsets i }

pub moved-right : (unit new : ℕ) (rows : List Row) → new < 64 → AreBelow new rows → IsAlternative rows → IsAlternative (moved unit new rows)
moved-right unit new rows few below is =
    let long : length (moved unit new rows) ≡ length rows = length-map rows (moved_row unit new) in
    record {
      some = subst (λ n. 0 < n) (sym long) is.some;
      few = subst (λ n. n ≤ 16) (sym long) is.few;
      units = All-map (λ (r : Row). r.unit < 64) (moved_row unit new) rows (λ k d h. either-below ((get_or rows k d).unit == unit) new (get_or rows k d).unit 64 few (is.units k d h));
      offsets = All-map (λ (r : Row). r.offset < 64) (moved_row unit new) rows is.offsets;
      different = λ i j d before within same.
          let high : j < length rows = subst (λ n. j < n) long within in
          let low : i < length rows = omega (arith, before, high) in
          is.different i j d before high
          (moved-one unit new (get_or rows i d) (get_or rows j d) (below i d low) (below j d high)
          (sym (get_or-map (moved_row unit new) rows i d d low) ∙ same ∙ get_or-map (moved_row unit new) rows j d d high));
    }

pub moved-below : (unit new : ℕ) (rows : List Row) → AreBelow new rows → AreBelow (new + 1) (moved unit new rows)
moved-below unit new rows below =
    All-map (λ (r : Row). r.unit < new + 1) (moved_row unit new) rows
    (λ k d h. (let low : (get_or rows k d).unit < new = below k d h in either-below ((get_or rows k d).unit == unit) new (get_or rows k d).unit (new + 1) (omega arith) (omega (arith, low))))

-- how many alternatives there are with the copies
pub copies-long : (unit new : ℕ) (alternatives : List (List Row)) → length (with_copies unit new alternatives) ≡ length alternatives + count_by (takes unit) alternatives
copies-long unit new alternatives =
    length-append alternatives (map (moved unit new) (filter (takes unit) alternatives))
    ∙ ap (λ n. length alternatives + n) (length-map (filter (takes unit) alternatives) (moved unit new) ∙ length-filter (takes unit) alternatives)

-- the alternatives with their copies
pub copies-right : (unit new : ℕ) (alternatives : List (List Row)) → new < 64 → All (AreBelow new) alternatives → AreAlternatives alternatives
    → length (with_copies unit new alternatives) ≤ 16 → AreAlternatives (with_copies unit new alternatives)
copies-right unit new alternatives few below are count =
    let long = copies-long unit new alternatives in
    let some = are.some in
    let each : All (λ rows. IsAlternative (moved unit new rows)) (filter (takes unit) alternatives)
    = All-filter (takes unit) (λ rows. IsAlternative (moved unit new rows)) alternatives (λ k d h. moved-right unit new (get_or alternatives k d) few (below k d h) (are.each k d h)) in
    record {
      some = omega (arith, long, some);
      few = count;
      each = All-append IsAlternative alternatives (map (moved unit new) (filter (takes unit) alternatives)) are.each (All-map IsAlternative (moved unit new) (filter (takes unit) alternatives) each);
    }

copies-below : (unit new : ℕ) (alternatives : List (List Row)) → All (AreBelow new) alternatives → All (AreBelow (new + 1)) (with_copies unit new alternatives)
copies-below unit new alternatives below =
    let each : All (λ rows. AreBelow (new + 1) (moved unit new rows)) (filter (takes unit) alternatives)
    = All-filter (takes unit) (λ rows. AreBelow (new + 1) (moved unit new rows)) alternatives (λ k d h. moved-below unit new (get_or alternatives k d) (below k d h)) in
    All-append (AreBelow (new + 1)) alternatives (map (moved unit new) (filter (takes unit) alternatives))
    (λ k d h i e g. (let low = below k d h i e g in omega (arith, low)))
    (All-map (AreBelow (new + 1)) (moved unit new) (filter (takes unit) alternatives) each)

abbrev or_else : OperationData → Option OperationData → OperationData
or_else d None = d
or_else d (Some t) = t

abbrev IsTable : ℕ → OperationData → Type 0
IsTable units table = IsOperation table × UsesUnits units table

doubled-right : (unit new : ℕ) (found : Option OperationData) (table : OperationData) → new < 64 → length (with_copies unit new (alternatives_in found)) ≤ 8
    → ((t : OperationData) → found ≡ Some t → IsTable new t) → option_map (doubled_table unit new) found ≡ Some table → IsTable (new + 1) table
doubled-right unit new None table few count is e = cc
doubled-right unit new (Some t) table few count is e =
    let r = is t refl in
    let within : length (with_copies unit new t.alternatives) ≤ 8 = count in
    subst (IsTable (new + 1)) (ap (or_else t) e) (
      record {
        latency_some = r.0.latency_some;
        latency_few = r.0.latency_few;
        alternatives = copies-right unit new t.alternatives few r.1 r.0.alternatives (omega (arith, within));
        alternatives_few = within;
      },
      copies-below unit new t.alternatives r.1,
    )

-- no opcode has too many alternatives
pub few-each : (machine : MachineData) (unit : ℕ) (opcode : Opcode) → passes_limit machine (Doubled unit) ≡ false
    → length (with_copies unit (length machine.units) (alternatives_in (table_of machine opcode))) ≤ 8
few-each machine unit opcode none =
    let p : Opcode → Bool = λ o. nat_lt 8 (length (with_copies unit (length machine.units) (alternatives_in (table_of machine o)))) in
    ltb-false 8 (length (with_copies unit (length machine.units) (alternatives_in (table_of machine opcode))))
    (none-has p opcode (or_parts (nat_lt 63 (length machine.units)) (list_any p all_opcodes) none).1)

pub few-units : (machine : MachineData) (unit : ℕ) → passes_limit machine (Doubled unit) ≡ false → length machine.units ≤ 63
few-units machine unit none =
    let p : Opcode → Bool = λ o. nat_lt 8 (length (with_copies unit (length machine.units) (alternatives_in (table_of machine o)))) in
    ltb-false 63 (length machine.units) (or_parts (nat_lt 63 (length machine.units)) (list_any p all_opcodes) none).0

pub doubled-machine : (machine : MachineData) (unit : ℕ) → IsMachine machine → passes_limit machine (Doubled unit) ≡ false → IsMachine (varied (Doubled unit) machine)
doubled-machine machine unit is none =
    let new : ℕ = length machine.units in
    let few : new ≤ 63 = few-units machine unit none in
    let long : length (numbered (new + 1)) ≡ new + 1 = numbered-long (new + 1) in
    record {
      units_some = omega (arith, long);
      units_few = omega (arith, long, few);
      units_named = numbered-named (new + 1) (omega (arith, few));
      units_different = numbered-different (new + 1) (omega (arith, few));
      registers_some = is.registers_some;
      registers_few = is.registers_few;
      opcodes = refl;
      tables = λ opcode table e.
          subst (λ n. IsTable n table) (sym long)
          (doubled-right unit new (table_of machine opcode) table (omega (arith, few)) (few-each machine unit opcode none) (is.tables opcode)
          (sym (table-at (λ o. option_map (doubled_table unit new) (table_of machine o)) opcode) ∙ e));
    }
